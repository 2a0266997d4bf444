use Rattle.std.proofs.Common.{◌≡◌, ◌+◌, ◌<◌, ◌≤◌, List, [], ◌∷◌, ◌++◌, Some, cond, length, take, slice_set, sym, subst, ap, ◌∙◌, arith}
use Rattle.std.proofs.lemmas.List.{take_more, length-take-le}
use Rattle.std.specs.BTreeMap.{is_at}
use Rattle.std.specs.Prelude.{unwrap_or}
use Rattle.ge_collections.specs.Keyed.{text_cmp}
use Rattle.ge_model_place.specs.Placement.{Cell}
use Rattle.ge_model_rows.specs.HostRows.{InstanceId}
use Rattle.ge_place.specs.Hosts.{number_in, AreFound}
use Rattle.ge_place.proofs.Numbered.{found_again, was_none, host_added}
use Rattle.ge_place.proofs.hosts.add_spot.Goals as goal

pub returns-then-number-next : goal.returns-then-number-next
returns-then-number-next c =
    let spots = c.args.spots.now in
    let place = c.args.place in
    let hosts = c.args.hosts.now.items in
    let numbers = c.args.numbers.now.entries in
    let new = c.number_for.new.numbers.entries in
    let number = c.in_ok-number.number in
    let spot = c.index-spots-place.result in
    let before : List Cell = take place spots in
    let one = c.index_mut.result.now in
    let more = c.add_place.new.host in
    let all : take (place + 1) spots ≡ before ++ spot ∷ [] = take_more spots place spot c.requires.inside ∙ ap (λ x. before ++ x ∷ []) (sym c.index-spots-place.is) in
    let size : length before ≡ place = length-take-le place spots (omega (arith, c.requires.inside)) in
    let name : c.instance.result.now.host ≡ spot.at.host = ap (λ (at : InstanceId). at.host) c.instance.ensures in
    let count : c.len-next.result ≡ length hosts = omega (arith, c.len-next.ensures) in
    let is : number ≡ unwrap_or (number_in numbers spot.at.host) (length hosts) = c.in_ok-number.ensures.number ∙ ap (λ h. unwrap_or (number_in numbers h) c.len-next.result) name ∙ ap (λ n. unwrap_or (number_in numbers spot.at.host) n) count in
    let less : number < length hosts = omega (arith, c.if-number-next.true, count) in
    let places : more.places.items ≡ one.places.items ++ length before ∷ [] = c.in_ok-add_place.ensures.places ∙ ap (λ n. one.places.items ++ n ∷ []) (sym size) in
    subst (λ xs. AreFound xs (slice_set hosts number more) new) (sym all)
    (found_again before spot hosts numbers c.requires.found number new is less
    (λ name'. c.in_ok-number.ensures.kept name' ∙ ap (λ h. cond (is_at (text_cmp h) name') (Some number) (number_in numbers name')) name)
    one more c.index_mut.ensures.value c.in_ok-add_place.ensures.host places)

pub returns : goal.returns
returns c =
    let spots = c.args.spots.now in
    let place = c.args.place in
    let hosts = c.args.hosts.now.items in
    let numbers = c.args.numbers.now.entries in
    let new = c.number_for.new.numbers.entries in
    let number = c.in_ok-number.number in
    let spot = c.index-spots-place.result in
    let before : List Cell = take place spots in
    let more = c.in_ok-found.found in
    let all : take (place + 1) spots ≡ before ++ spot ∷ [] = take_more spots place spot c.requires.inside ∙ ap (λ x. before ++ x ∷ []) (sym c.index-spots-place.is) in
    let size : length before ≡ place = length-take-le place spots (omega (arith, c.requires.inside)) in
    let name : c.instance.result.now.host ≡ spot.at.host = ap (λ (at : InstanceId). at.host) c.instance.ensures in
    let count : c.len-next.result ≡ length hosts = omega (arith, c.len-next.ensures) in
    let is : number ≡ unwrap_or (number_in numbers spot.at.host) (length hosts) = c.in_ok-number.ensures.number ∙ ap (λ h. unwrap_or (number_in numbers h) c.len-next.result) name ∙ ap (λ n. unwrap_or (number_in numbers spot.at.host) n) count in
    let over : length hosts ≤ number = omega (arith, c.if-number-next.false, count) in
    let none = was_none before spot hosts numbers c.requires.found number is over in
    let at : number ≡ length hosts = is ∙ ap (λ o. unwrap_or o (length hosts)) none in
    let found = host_added before spot hosts numbers c.requires.found new none
    (λ name'. c.in_ok-number.ensures.kept name' ∙ ap (λ h. cond (is_at (text_cmp h) name') (Some number) (number_in numbers name')) name ∙ ap (λ n. cond (is_at (text_cmp spot.at.host) name') (Some n) (number_in numbers name')) at)
    more (c.in_ok-found.ensures.host ∙ name) (c.in_ok-found.ensures.places ∙ ap (λ n. n ∷ []) (sym size)) in
    subst (λ hs. AreFound (take (place + 1) spots) hs new) (sym c.in_ok-push.ensures.items)
    (subst (λ xs. AreFound xs (hosts ++ more ∷ []) new) (sym all) found)
