use Rattle.std.proofs.lemmas.Slice.Zip.{AllZip-long}
use Rattle.library_tests.proofs.found_limits.count_in.Goals as goal

-- each row that was read is as long as the table has attributes
pub count-requires : goal.count-requires
count-requires c k d below = AllZip-long _ _ _ (c.in_ok-rows.ensures.valid k d below).domains
