-- A row that is put in at a number twice is the second one.
use Rattle.std.proofs.Common.{◌≡◌, ℕ, List, [], ◌∷◌, refl, ap, ◌∙◌, arith, nat_cmp, Ordering, Less, Equal, Greater}
use Rattle.std.specs.Prelude.{Option}
use Rattle.std.specs.Ordering.{match_ordering}
use Rattle.ge_collections.specs.Keyed.{at_number, put_number}
use Rattle.ge_model_rows.specs.EntryRows.{Pick}
use Rattle.ge_model_rows.specs.TaskRows.{TaskSpan}
use Rattle.ge_model_jobs.specs.Picks.{with_named, join_pick}

same_order : (k : ℕ) → nat_cmp k k ≡ Equal
same_order k = grind arith

put_twice : {X : Type 0} (k : ℕ) (x y : X) (rows : List (ℕ × X)) → put_number (put_number rows k x) k y ≡ put_number rows k y
put_twice k x y [] = ap (λ (o : Ordering). match_ordering o ((k, y) ∷ (k, x) ∷ []) ((k, y) ∷ []) ((k, x) ∷ (k, y) ∷ [])) (same_order k)
put_twice {X} k x y (row ∷ rows) = by (nat_cmp k row.0) refl (put_twice k x y rows)
  where
    behind : List (ℕ × X)
    behind = put_number rows k y

    by : (order : Ordering) → nat_cmp k row.0 ≡ order → put_number (put_number rows k x) k y ≡ put_number rows k y
        → put_number (match_ordering order ((k, x) ∷ row ∷ rows) ((row.0, x) ∷ rows) (row ∷ put_number rows k x)) k y
        ≡ match_ordering order ((k, y) ∷ row ∷ rows) ((row.0, y) ∷ rows) (row ∷ behind)
    by Less is again = ap (λ (o : Ordering). match_ordering o ((k, y) ∷ (k, x) ∷ row ∷ rows) ((k, y) ∷ row ∷ rows) ((k, x) ∷ put_number (row ∷ rows) k y)) (same_order k)
    by Equal is again = ap (λ (o : Ordering). match_ordering o ((k, y) ∷ (row.0, x) ∷ rows) ((row.0, y) ∷ rows) ((row.0, x) ∷ behind)) is
    by Greater is again =
        ap (λ (o : Ordering). match_ordering o ((k, y) ∷ row ∷ put_number rows k x) ((row.0, y) ∷ put_number rows k x) (row ∷ put_number (put_number rows k x) k y)) is
        ∙ ap (λ (later : List (ℕ × X)). row ∷ later) again

-- what a job's targets named, with one more, in place of whatever was put in meanwhile
pub joined_again : (rows between new : List (ℕ × Option (List TaskSpan))) (pick : Pick) (so_far : Option (Option (List TaskSpan))) (meanwhile named : Option (List TaskSpan))
    → so_far ≡ at_number rows pick.job → between ≡ put_number rows pick.job meanwhile → named ≡ with_named so_far pick.tasks → new ≡ put_number between pick.job named
    → new ≡ join_pick rows pick
joined_again rows between new pick so_far meanwhile named before first is then =
    then
    ∙ ap (λ (there : List (ℕ × Option (List TaskSpan))). put_number there pick.job named) first
    ∙ put_twice pick.job meanwhile named rows
    ∙ ap (λ (x : Option (List TaskSpan)). put_number rows pick.job x) (is ∙ ap (λ (found : Option (Option (List TaskSpan))). with_named found pick.tasks) before)
