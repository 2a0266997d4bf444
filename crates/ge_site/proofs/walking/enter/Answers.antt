use Rattle.std.proofs.Common.{◌≡◌, ◌∙◌, ◌++◌, ◌∷◌, [], false, Some, sym, ap}
use Rattle.ge_collections.specs.Keyed.{at_text}
use Rattle.ge_model_rows.specs.Pieces.{is_one_of}
use Rattle.ge_site.specs.Walks.{names_on}
use Rattle.ge_site.proofs.Going.{comes_of}
use Rattle.ge_site.proofs.Steps.{steps_after}
use Rattle.ge_site.proofs.walking.enter.Goals as goal

pub returns-clause-comes : goal.returns-clause-comes
returns-clause-comes c =
    let name = c.args.name.now in
    let way = c.args.way.now in
    let there : at_text c.args.groups.now name ≡ Some c.in-Some.entries.now = sym c.in-Some.ensures in
    let off : is_one_of name (names_on way) ≡ false = ap (λ n. is_one_of n (names_on way)) (sym c.bytes.ensures) ∙ sym c.has.ensures ∙ c.if-has.false in
    let unmet : is_one_of name c.args.seen.now.groups ≡ false = sym c.has_group.ensures ∙ c.if-has_group.false in
    let led : c.push.new.self ≡ way ++ (name, c.args.place.entries.now, c.args.place.depth) ∷ [] =
    c.in_ok-push.ensures ∙ ap (λ n. way ++ (n, c.args.place.entries.now, c.args.place.depth) ∷ []) c.bytes-2.ensures in
    rw led (rw c.items.ensures (rw c.in_ok-add_group.ensures
    (comes_of c.args.groups.now way c.args.place.entries.now c.args.place.depth c.args.seen.now name c.in-Some.entries.now c.args.deeper there off unmet)))

pub returns-clause-ends : goal.returns-clause-ends
returns-clause-ends c =
    let name = c.args.name.now in
    let way = c.args.way.now in
    let there : at_text c.args.groups.now name ≡ Some c.in-Some.entries.now = sym c.in-Some.ensures in
    let unmet : is_one_of name c.args.seen.now.groups ≡ false = sym c.has_group.ensures ∙ c.if-has_group.false in
    let led : c.push.new.self ≡ way ++ (name, c.args.place.entries.now, c.args.place.depth) ∷ [] =
    c.in_ok-push.ensures ∙ ap (λ n. way ++ (n, c.args.place.entries.now, c.args.place.depth) ∷ []) c.bytes-2.ensures in
    rw led (rw c.items.ensures (rw c.in_ok-add_group.ensures
    (steps_after c.args.groups.now way c.args.place.entries.now c.args.place.depth c.args.seen.now name c.in-Some.entries.now there unmet)))
