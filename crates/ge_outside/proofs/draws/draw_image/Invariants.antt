use Rattle.std.proofs.Common.{◌≡◌, ◌++◌, ◌-◌, ◌<◌, ◌^◌}
use Rattle.ge_outside.specs.Draws.{drawn_bytes, drawn_image}
use Rattle.ge_outside.specs.Shown.{shown_content}
use Rattle.ge_outside.proofs.draws.draw_image.Given as goal

abbrev pub invariant-loop-place : goal.invariant-loop-place
invariant-loop-place l =
    (l.image.items ++ drawn_bytes (shown_content l.shown) l.state l.place (l.place-end - l.place) ≡ drawn_image (shown_content l.shown) l.fn.pick)
    × (l.state < 2 ^ 31)
