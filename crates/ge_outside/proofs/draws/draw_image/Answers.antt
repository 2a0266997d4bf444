use Rattle.std.proofs.Common.{◌≡◌, ◌++◌, ◌∷◌, [], ◌+◌, ◌-◌, ℕ, suc, List, arith, append_assoc, ◌∙◌}
use Rattle.std.proofs.lemmas.Grind.{common_steps}
use Rattle.ge_model_journal.specs.Disk.{Content}
use Rattle.ge_outside.specs.Draws.{drawn_byte, drawn_bytes}
use Rattle.ge_outside.specs.Shown.{shown_content}
use Rattle.ge_outside.proofs.draws.draw_image.Goals as goal

-- one byte more, and the bytes after it
draw-more : (c : Content) (state place left less : ℕ) (image more : List ℕ) (byte next : ℕ)
    → left ≡ suc less → (byte, next) ≡ drawn_byte c state place → more ≡ image ++ byte ∷ []
    → more ++ drawn_bytes c next (place + 1) less ≡ image ++ drawn_bytes c state place left
draw-more c state place left less image more byte next one drawn pushed =
    rw (one, ← drawn, pushed) (append_assoc image (byte ∷ []) (drawn_bytes c next (place + 1) less))

pub loop-place-preserved : goal.loop-place-preserved
loop-place-preserved c =
    let pushed : c.push.new.self.items ≡ c.loop-place.image.items ++ c.draw_byte-byte.result.0 ∷ [] = grind (arith, common_steps) in
    let left : (c.len-least.result + c.number.result - c.loop-place.place) ≡ suc (c.len-least.result + c.number.result - (c.loop-place.place + 1)) = omega arith in (
      draw-more (shown_content c.args.shown.now) c.loop-place.state c.loop-place.place _ _ c.loop-place.image.items _ c.draw_byte-byte.result.0 c.draw_byte-byte.result.1
          left c.draw_byte-byte.ensures.value pushed ∙ c.loop-place.invariant.0,
      c.draw_byte-byte.ensures.small,
    )
