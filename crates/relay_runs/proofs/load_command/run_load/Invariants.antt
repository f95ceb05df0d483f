use Rattle.relay_runs.proofs.load_command.run_load.Given as goal

-- the seed of the words
abbrev pub ghosts-run_seeded : goal.ghosts-run_seeded
ghosts-run_seeded g a = record { number = a.settings.now.seed }
