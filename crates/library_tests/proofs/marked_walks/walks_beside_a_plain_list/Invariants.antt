use Rattle.library_tests.proofs.marked_walks.walks_beside_a_plain_list.Given as goal

-- the counter's ledger is the blank that is handed in
abbrev pub ghosts-walks : goal.ghosts-walks
ghosts-walks g a = record { name = a.blank.name; parts = a.blank.parts }
