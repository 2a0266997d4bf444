use Rattle.ge_timeline.proofs.timeline.Timeline.is_above.Given as goal

abbrev pub ghosts-exceeds_over : goal.ghosts-exceeds_over
ghosts-exceeds_over a = record { name = a.blank.name; parts = a.blank.parts }
