use Rattle.step_script.proofs.player.end_player.EndPlayer.call.Given as goal

abbrev pub ghosts-make : goal.ghosts-make
ghosts-make a = record { name = a.blank.name; parts = a.blank.parts }
