use Rattle.std.proofs.Common.{◌≡◌, OnOk, List, fold, sym, subst, ap, ◌∙◌}
use Rattle.ge_model_place.specs.Placement as placed
use Rattle.ge_model_place.specs.Placement.{Cell}
use Rattle.ge_place.specs.Spots.{cells_with}
use Rattle.ge_place.proofs.spreading.spread_over.Goals as goal

pub returns-in-PeSlots-clause-cells : goal.returns-in-PeSlots-clause-cells
returns-in-PeSlots-clause-cells c =
    let spots = c.args.spots.now.items in
    let start : List Cell = cells_with spots c.args.given.now.slots in
    subst (λ cells. OnOk c.on_one_host.result (cells_with spots c.on_one_host.new.given.slots ≡ cells))
    (ap (λ hosts. fold (λ best host. placed.fuller best (placed.filled (placed.is_on host) c.args.high start)) start hosts) c.requires.hosts
    ∙ sym (ap (λ rule. placed.spread rule c.args.high start) c.in-PeSlots.is))
    c.on_one_host.ensures.cells

pub returns-in-Fixed-clause-cells : goal.returns-in-Fixed-clause-cells
returns-in-Fixed-clause-cells c =
    let spots = c.args.spots.now.items in
    let start : List Cell = cells_with spots c.args.given.now.slots in
    subst (λ cells. OnOk c.in_blocks.result (cells_with spots c.in_blocks.new.given.slots ≡ cells))
    (ap (λ hosts. fold (λ cells host. placed.with_block c.in-Fixed.size c.args.high cells (placed.filled (placed.is_on host) c.in-Fixed.size cells)) start hosts) c.requires.hosts
    ∙ sym (ap (λ rule. placed.spread rule c.args.high start) c.in-Fixed.is))
    c.in_blocks.ensures.cells

pub returns-in-RoundRobin-clause-cells : goal.returns-in-RoundRobin-clause-cells
returns-in-RoundRobin-clause-cells c =
    let spots = c.args.spots.now.items in
    let start : List Cell = cells_with spots c.args.given.now.slots in
    subst (λ cells. OnOk c.in_rounds.result (cells_with spots c.in_rounds.new.given.slots ≡ cells))
    (ap (λ hosts. placed.with_rounds c.args.high c.args.high hosts start) c.requires.hosts
    ∙ sym (ap (λ rule. placed.spread rule c.args.high start) c.in-RoundRobin.is))
    c.in_rounds.ensures.cells
