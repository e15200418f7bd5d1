use Rattle.library_tests.proofs.fix_runs.a_ring.Given as goal

-- the counter's ledger is the blank that is handed in
abbrev pub ghosts-first_wrong : goal.ghosts-first_wrong
ghosts-first_wrong g a = record { name = a.blank.name; parts = a.blank.parts }
