use Rattle.std.proofs.Common.{◌≡◌, sym, ap, subst, ◌∙◌, length, rules, arith}
use Rattle.std.specs.BTreeMap.{insert_entry}
use Rattle.ge_rows.specs.contracts.scheduling.LimitIdOrd.TheImpl.{cmp-value}
use Rattle.ge_model_place.specs.Limits.{demand_for, with_demand}
use Rattle.ge_timeline.proofs.Putting.{on_ok}
use Rattle.ge_capacities.specs.Counts.{counted_as}
use Rattle.ge_capacities.specs.Found.{AreKept}
use Rattle.ge_demands.proofs.Placed.{still_kept, kept_more}
use Rattle.ge_demands.proofs.indexing.add_kept.Goals as goal

pub returns-in-Some-clause-kept : goal.returns-in-Some-clause-kept
returns-in-Some-clause-kept c =
    let places = c.args.places.now.entries in
    let more = counted_as c.args.counted in
    let there = sym (c.requires c.args.counted.limit) ∙ sym c.in-Some.ensures in
    on_ok _ _ c.add_at.result c.add_at.ensures (λ is. subst (λ demands. AreKept places demands) (sym is) (still_kept places c.args.demands.now.items c.args.slots more c.in-Some.place (demand_for c.args.slots more) there c.requires))

pub returns-in_ok-insert-in-None-clause-kept : goal.returns-in_ok-insert-in-None-clause-kept
returns-in_ok-insert-in-None-clause-kept c =
    let items = c.args.demands.now.items in
    let more = counted_as c.args.counted in
    let none = sym (c.requires c.args.counted.limit) ∙ sym c.in-None.ensures in
    let size : c.len.result ≡ length items = first_of (search rules, omega (arith, c.len.ensures)) in
    let put : c.insert.new.self.entries ≡ insert_entry cmp-value.it c.args.places.now.entries c.args.counted.limit (length items) =
    c.in_ok-insert-in-None.ensures.entries
    ∙ ap (λ l. insert_entry cmp-value.it c.args.places.now.entries l c.len.result) c.in_ok-limit-in-None.ensures
    ∙ ap (λ n. insert_entry cmp-value.it c.args.places.now.entries c.args.counted.limit n) size in
    on_ok _ _ c.add_at-in-None.result c.add_at-in-None.ensures (λ is.
    subst (λ demands. AreKept c.insert.new.self.entries demands) (sym is) (subst (λ places. AreKept places (with_demand c.args.slots items more)) (sym put) (kept_more c.args.places.now.entries items c.args.slots more none c.requires)))
