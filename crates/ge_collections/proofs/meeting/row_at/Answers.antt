use Rattle.ge_collections.proofs.meeting.row_at.Goals as goal

pub returns-in-Some-clause-others : goal.returns-in-Some-clause-others
returns-in-Some-clause-others g c = c.next_at.ensures.others c.args.rows.now.entries

pub returns-in-None-clause-others : goal.returns-in-None-clause-others
returns-in-None-clause-others g c = c.next_at.ensures.others c.args.rows.now.entries
