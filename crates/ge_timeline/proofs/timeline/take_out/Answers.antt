use Rattle.ge_model_place.specs.Bookings.{plain_sum}
use Rattle.ge_timeline.specs.Looks.{changes}
use Rattle.ge_timeline.proofs.Putting.{on_ok}
use Rattle.ge_timeline.proofs.Renewed.{anew_shows, taken_out}
use Rattle.ge_timeline.proofs.timeline.take_out.Goals as goal

pub returns-clause-kept : goal.returns-clause-kept
returns-clause-kept c =
    let old = c.args.bookings.now in
    let new = c.remove-b.new.self in
    let out = taken_out old new c.args.place c.remove-b.result c.remove-b.ensures.value c.remove-b.ensures.rest in
    on_ok _ _ c.renew_all.result c.renew_all.ensures (λ anew. record {
      shows = anew_shows c.renew_all.new.index c.renew_all.new.functions c.remove-b.result old new out (anew (plain_sum old) (changes old) c.requires.kept.shows);
      ends_kept = c.take_end.ensures old out c.requires.kept.ends_kept;
    })
