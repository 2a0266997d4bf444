-- A daemon that acted stands in the place of the one that was there.
use Rattle.std.proofs.Common.{◌≡◌, ℕ, zero, suc, Option, List, [], ◌∷◌, ◌++◌, Some, refl, ap, sym, ◌∙◌}
use Rattle.std.specs.List.{slice_get, slice_set}
use Rattle.ge_execd.specs.declared.daemon.Daemon.{Daemon}
use Rattle.ge_model_world.specs.declared.rows.Act.{Act}
use Rattle.ge_model_world.specs.declared.rows.World.{World}
use Rattle.ge_model_world.specs.Worlds.{acted, acting, cut_short, starts_at}

-- of two elements that are put at a place the second stands there
set_twice : {X : Type 0} (xs : List X) (k : ℕ) (x y : X) → slice_set (slice_set xs k x) k y ≡ slice_set xs k y
set_twice [] k x y = refl
set_twice (z ∷ xs) zero x y = refl
set_twice (z ∷ xs) (suc k) x y = ap (λ zs. z ∷ zs) (set_twice xs k x y)

pub acts : (w : World) (place : ℕ) (act : Act) (most : Option ℕ) (found blank new : Daemon) (daemons : List Daemon) (started : List (ℕ × ℕ)) (serials : List ℕ)
    → slice_get w.daemons place ≡ Some found → daemons ≡ slice_set (slice_set w.daemons place blank) place new
    → new ≡ (cut_short most (acted w.sent place found act)).0 → serials ≡ (cut_short most (acted w.sent place found act)).1
    → started ≡ w.started ++ starts_at place serials
    → record w { daemons = daemons; started = started } ≡ acting w place act most (slice_get w.daemons place)
acts w place act most found blank new daemons started serials at put daemon starts noted =
    (λ i. record w {
      daemons = (put ∙ set_twice w.daemons place blank new ∙ ap (λ d. slice_set w.daemons place d) daemon) i;
      started = (noted ∙ ap (λ ss. w.started ++ starts_at place ss) starts) i;
    })
    ∙ ap (acting w place act most) (sym at)
