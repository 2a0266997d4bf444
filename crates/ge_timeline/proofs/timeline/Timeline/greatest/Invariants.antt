use Rattle.ge_timeline.proofs.timeline.Timeline.greatest.Given as goal

abbrev pub ghosts-peak_over : goal.ghosts-peak_over
ghosts-peak_over a = record { name = a.blank.name; parts = a.blank.parts }
