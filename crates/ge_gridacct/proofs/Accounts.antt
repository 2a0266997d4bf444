-- The sums of lines, and what is shown of them.
use Rattle.std.specs.Prelude.{slice_get, ◌||◌, true, false, Bool, codes, cond, Option}
use Rattle.std.proofs.Common.{◌≡◌, ℕ, ◌+◌, ◌≤◌, List, [], ◌∷◌, ◌++◌, length, take, drop, Some, refl, ap, ◌∙◌, sym, subst, append-nil}
use Rattle.std.proofs.lemmas.List.{take_more, take_all, take-append-drop}
use Rattle.std.proofs.lemmas.List.Elements.{filter-append}
use Rattle.std.proofs.lemmas.Grind.{flat_map-append}
use Rattle.std.proofs.lemmas.Option.{get_or_from_slice_get, slice_get_within}
use Rattle.ge_outside.specs.Streams.{GainsPrefix}
use Rattle.ge_collections.specs.Keyed.{text_eq}
use Rattle.ge_model_rows.specs.AccountRows.{Line}
use Rattle.ge_model_rows.specs.ClusterRows.{Cluster}
use Rattle.ge_model_rows.specs.CommandRows.{Query}
use Rattle.ge_model_core.specs.Render.{rendered_line}
use Rattle.ge_model_report.specs.Accounting.{line_text, account_of, sum_line}
use Rattle.ge_gridacct.specs.Sums.{counted}
use Rattle.ge_gridacct.specs.Looks.{shown, fed, summed}
use Rattle.ge_gridacct.proofs.Written.{front_longer}

-- the lines up to the next
pub next_line : (lines : List Line) (k : ℕ) (line : Line) → slice_get lines k ≡ Some line → take (k + 1) lines ≡ take k lines ++ line ∷ []
next_line lines k line read =
    take_more lines k line (slice_get_within lines k line read) ∙ ap (λ x. take k lines ++ x ∷ []) (get_or_from_slice_get lines k line line read)

pub counted_more : (all : Bool) (name : List ℕ) (lines : List Line) (k : ℕ) (line : Line) → slice_get lines k ≡ Some line
    → (all || text_eq line.owner name) ≡ true → counted all name (take (k + 1) lines) ≡ counted all name (take k lines) ++ line ∷ []
counted_more all name lines k line read is =
    ap (counted all name) (next_line lines k line read) ∙ filter-append (λ l. all || text_eq l.owner name) (take k lines) (line ∷ [])
    ∙ ap (λ b. counted all name (take k lines) ++ (cond b (line ∷ []) [])) is

pub counted_less : (all : Bool) (name : List ℕ) (lines : List Line) (k : ℕ) (line : Line) → slice_get lines k ≡ Some line
    → (all || text_eq line.owner name) ≡ false → counted all name (take (k + 1) lines) ≡ counted all name (take k lines)
counted_less all name lines k line read is =
    ap (counted all name) (next_line lines k line read) ∙ filter-append (λ l. all || text_eq l.owner name) (take k lines) (line ∷ [])
    ∙ ap (λ b. counted all name (take k lines) ++ (cond b (line ∷ []) [])) is ∙ append-nil (counted all name (take k lines))

pub shown_more : (lines : List Line) (k : ℕ) (line : Line) → slice_get lines k ≡ Some line
    → shown (take (k + 1) lines) ≡ shown (take k lines) ++ rendered_line (line_text line)
shown_more lines k line read =
    ap shown (next_line lines k line read) ∙ flat_map-append (λ l. rendered_line (line_text l)) (take k lines) (line ∷ [])
    ∙ ap (λ z. shown (take k lines) ++ z) (append-nil (rendered_line (line_text line)))

-- what is shown of the first lines is a front of what is shown of all
pub shown_front : (lines : List Line) (k : ℕ) (old new : Option (List ℕ)) → GainsPrefix old new (shown (take k lines)) → GainsPrefix old new (shown lines)
shown_front lines k old new front =
    let parts : shown (take k lines) ++ shown (drop k lines) ≡ shown lines =
    sym (flat_map-append (λ l. rendered_line (line_text l)) (take k lines) (drop k lines)) ∙ ap shown (take-append-drop k lines) in
    subst (λ z. GainsPrefix old new z) parts (front_longer old new (shown (take k lines)) (shown (drop k lines)) front)

pub shown_all : (lines : List Line) (k : ℕ) → length lines ≤ k → shown (take k lines) ≡ shown lines
shown_all lines k past = ap shown (take_all k lines past)

pub counted_all : (all : Bool) (name : List ℕ) (lines : List Line) (k : ℕ) → length lines ≤ k → counted all name (take k lines) ≡ counted all name lines
counted_all all name lines k past = ap (counted all name) (take_all k lines past)

all_counted : (name : List ℕ) (lines : List Line) → counted true name lines ≡ lines
all_counted name [] = refl
all_counted name (line ∷ lines) = ap (λ ls. line ∷ ls) (all_counted name lines)

pub account_total : (c : Cluster) (lines : List Line) → summed true (codes "total") lines ≡ fed (account_of (record c { lines = lines }) Query.Total)
unfolding account_of
account_total c lines =
    ap (λ ls. rendered_line (sum_line (codes "total") ls)) (all_counted (codes "total") lines)
    ∙ sym (append-nil (rendered_line (sum_line (codes "total") lines)))

pub account_owner : (c : Cluster) (name : List ℕ) (lines : List Line) → summed false name lines ≡ fed (account_of (record c { lines = lines }) (Query.Owner name))
unfolding account_of
account_owner c name lines = sym (append-nil (rendered_line (sum_line name (counted false name lines))))
