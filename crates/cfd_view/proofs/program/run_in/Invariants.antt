use Rattle.cfd_view.proofs.program.run_in.Given as goal

-- nothing is counted
abbrev pub ghosts-run_opened : goal.ghosts-run_opened
ghosts-run_opened g a = record { name = a.blank.name; parts = a.blank.parts }
