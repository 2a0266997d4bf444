use Rattle.std.proofs.Common.{◌≡◌, ◌∙◌, sym}
use Rattle.ge_model_journal.specs.Disk.{read_bytes}
use Rattle.ge_model_journal.specs.Area.{head}
use Rattle.ge_model_journal.specs.declared.Head.TheVariants.{Closed}
use Rattle.ge_spool.proofs.ShortAreas.{quiet-head}
use Rattle.ge_spool.proofs.Openings.{quiet-synced, tells-quiet, open-still, open-chosen-moments, open-fresh-moments, meaning-wrong, choice-neither}
use Rattle.ge_spool.proofs.spool.Spool.open.Goals as goal

pub returns-in_default-clause-any_moment : goal.returns-in_default-clause-any_moment
returns-in_default-clause-any_moment g c = λ bytes_a bytes_b quiet_a quiet_b image_a image_b of_a of_b.
    let a = g.D.Disk.told c.args.a.now in
    let b = g.D.Disk.told c.args.b.now in
    let mid_a = g.D.Disk.told c.survey.new.a in
    let mid_b = g.D.Disk.told c.survey.new.b in
    open-still a mid_a b mid_b bytes_a bytes_b quiet_a quiet_b c.survey.ensures.since_a c.survey.ensures.since_b image_a image_b of_a of_b

pub returns-in-Wrong-clause-opened : goal.returns-in-Wrong-clause-opened
returns-in-Wrong-clause-opened g c = λ tells_a tells_b.
    let a = g.D.Disk.told c.args.a.now in
    let b = g.D.Disk.told c.args.b.now in
    let mid_a = g.D.Disk.told c.survey.new.a in
    let mid_b = g.D.Disk.told c.survey.new.b in
    let still_a = tells-quiet a mid_a tells_a c.in-Ok.ensures.told_a in
    let still_b = tells-quiet b mid_b tells_b c.in-Ok.ensures.told_b in
    meaning-wrong (read_bytes a) (read_bytes b) c.in-Ok.look_a.1 c.in-Ok.look_b.1 c.in-Wrong.area c.in-Wrong.place
    (quiet-head mid_a (read_bytes a) c.in-Ok.look_a.0 c.in-Ok.look_a.1 still_a c.in-Ok.ensures.head_a)
    (quiet-head mid_b (read_bytes b) c.in-Ok.look_b.0 c.in-Ok.look_b.1 still_b c.in-Ok.ensures.head_b) (sym c.in-Wrong.ensures)

pub returns-in-Wrong-clause-any_moment : goal.returns-in-Wrong-clause-any_moment
returns-in-Wrong-clause-any_moment g c = λ bytes_a bytes_b quiet_a quiet_b image_a image_b of_a of_b.
    let a = g.D.Disk.told c.args.a.now in
    let b = g.D.Disk.told c.args.b.now in
    let mid_a = g.D.Disk.told c.survey.new.a in
    let mid_b = g.D.Disk.told c.survey.new.b in
    open-still a mid_a b mid_b bytes_a bytes_b quiet_a quiet_b c.survey.ensures.since_a c.survey.ensures.since_b image_a image_b of_a of_b

pub returns-in-Neither-clause-any_moment : goal.returns-in-Neither-clause-any_moment
returns-in-Neither-clause-any_moment g c = λ read_a read_b quiet_a quiet_b image_a image_b of_a of_b.
    let a = g.D.Disk.told c.args.a.now in
    let b = g.D.Disk.told c.args.b.now in
    let mid_a = g.D.Disk.told c.survey.new.a in
    let mid_b = g.D.Disk.told c.survey.new.b in
    let still_a = quiet-synced a mid_a read_a quiet_a c.in-Ok.ensures.told_a in
    let still_b = quiet-synced b mid_b read_b quiet_b c.in-Ok.ensures.told_b in
    let none = choice-neither c.in-Ok.look_a.1 c.in-Ok.look_b.1 (sym c.in-Neither.ensures) in
    let closed_a : head read_a ≡ Closed = sym (quiet-head mid_a read_a c.in-Ok.look_a.0 c.in-Ok.look_a.1 still_a c.in-Ok.ensures.head_a) ∙ none.0 in
    let closed_b : head read_b ≡ Closed = sym (quiet-head mid_b read_b c.in-Ok.look_b.0 c.in-Ok.look_b.1 still_b c.in-Ok.ensures.head_b) ∙ none.1 in
    open-fresh-moments a mid_a (g.D.Disk.told c.open_fresh.new.a) b mid_b (g.D.Disk.told c.open_fresh.new.b) read_a read_b quiet_a quiet_b
    c.in-Ok.ensures.told_a c.in-Ok.ensures.told_b closed_a closed_b (c.open_fresh.ensures.since_a read_a still_a) (c.open_fresh.ensures.since_b read_b still_b)
    image_a image_b of_a of_b

pub returns-in-Chosen-clause-any_moment : goal.returns-in-Chosen-clause-any_moment
returns-in-Chosen-clause-any_moment g c = λ read_a read_b quiet_a quiet_b image_a image_b of_a of_b.
    let a = g.D.Disk.told c.args.a.now in
    let b = g.D.Disk.told c.args.b.now in
    let mid_a = g.D.Disk.told c.survey.new.a in
    let mid_b = g.D.Disk.told c.survey.new.b in
    let still_a = quiet-synced a mid_a read_a quiet_a c.in-Ok.ensures.told_a in
    let still_b = quiet-synced b mid_b read_b quiet_b c.in-Ok.ensures.told_b in
    open-chosen-moments a mid_a (g.D.Disk.told c.open_chosen.new.a) b mid_b (g.D.Disk.told c.open_chosen.new.b) read_a read_b quiet_a quiet_b
    c.in-Ok.ensures.told_a c.in-Ok.ensures.told_b (c.open_chosen.ensures.since_a read_a still_a) (c.open_chosen.ensures.since_b read_b still_b)
    image_a image_b of_a of_b
