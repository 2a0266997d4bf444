-- The refusals of an alteration, and its plan.
use Rattle.std.proofs.Common.{◌≡◌, ℕ, Bool, true, false, List, ◌++◌, Option, Some, None, [], ◌∷◌, ◌+◌, ◌<◌, length, get_or, drop, drop-cons, add-one, refl, sym, ap, ◌∙◌, append-nil}
use Rattle.std.specs.Prelude.{if◌then◌else◌, ◌&&◌, ◌||◌, flat_map, filter_map, nat_lt, option_map, option_to_list, codes}
use Rattle.std.specs.List.{cons_option, list_any}
use Rattle.std.proofs.lemmas.List.{append_assoc}
use Rattle.ge_base.specs.declared.refusal.Refusal.{Refusal}
use Rattle.ge_base.specs.declared.refusal.Refusal.TheVariants.{Cycle}
use Rattle.ge_model_rows.specs.ClusterRows.{Cluster}
use Rattle.ge_model_rows.specs.EventRows.{Event}
use Rattle.ge_model_rows.specs.Faults.{when, turn_of, after_faults, first_fault}
use Rattle.ge_model_rows.proofs.FaultLaws.{after_faults-append}
use Rattle.ge_model_grammar.specs.Options.{Given, has_option}
use Rattle.ge_model_core.specs.Refusals.{refused, unless_refused}
use Rattle.ge_model_rows.specs.Pieces.{each_number_once}
use Rattle.ge_model_core.specs.Altering.{alter_faults, patch_at, patches_of, closes_a_cycle, altered, alter_plan}
use Rattle.ge_model_rows.specs.EntryRows.{Patch}
use Rattle.ge_model_rows.specs.JobRows.{Request}
use Rattle.ge_model_config.specs.Requests.{request_of}
use Rattle.ge_model_core.specs.OptionValues.{option_word}
use Rattle.ge_model_core.specs.HoldLists.{predecessors}
use Rattle.ge_model_core.specs.JobOptions.{Owned, patch_of}
use Rattle.ge_model_core.specs.Reaching.{reaches_itself}
use Rattle.ge_submitting.specs.Altered.{plan_behind}
use Rattle.ge_job_options.specs.Held.{patch_with}
use Rattle.ge_job_options.specs.Holding.{holds_given}
use Rattle.ge_job_options.proofs.Held.{known_lists}

-- what is tried before a cycle stays
pub kept : (t : Bool) (r : Refusal) → nat_lt (turn_of Cycle) (turn_of r) ≡ false → after_faults (Some r) (when t Cycle) ≡ Some r
kept true r is = ap (λ (b : Bool). if b then Some Cycle else Some r) is
kept false r is = refl

-- refusals noted part by part
pub both_noted : (first : Option Refusal) (xs ys : List Refusal) → after_faults (after_faults first xs) ys ≡ after_faults first (xs ++ ys)
both_noted first xs ys = sym (after_faults-append first xs ys)

pub one_noted : (faults : ℕ → List Refusal) (numbers : List ℕ) (i : ℕ) (x y whole : Option Refusal) → i < length numbers → y ≡ after_faults x (faults (get_or numbers i 0))
    → after_faults x (flat_map faults (drop i numbers)) ≡ whole → after_faults y (flat_map faults (drop (i + 1) numbers)) ≡ whole
one_noted faults numbers i x y whole lt is so_far =
    let e : drop i numbers ≡ get_or numbers i 0 ∷ drop (i + 1) numbers = rw (add-one, drop-cons numbers i 0) in
    ap (λ (z : Option Refusal). after_faults z (flat_map faults (drop (i + 1) numbers))) is ∙ both_noted x (faults (get_or numbers i 0)) (flat_map faults (drop (i + 1) numbers))
    ∙ sym (ap (λ (ns : List ℕ). after_faults x (flat_map faults ns)) e) ∙ so_far

abbrev Holds : Type 0
Holds = Option (Option (List ℕ))

abbrev Looked : Type 0
Looked = Request × Holds × Holds

-- what is set, of its parts
pub patch_is : (c : Cluster) (options : Given) (job : Owned) (request : Request) (first second : Holds) (after each : Option (List ℕ)) (patch : Patch)
    → ◌≡◌ {A = Looked} (request, first, second) ((request_of c options job.request).0, holds_given c options job.owner (codes "-hold_jid"), holds_given c options job.owner (codes "-hold_jid_ad"))
    → option_map Some after ≡ first → option_map Some each ≡ second → patch ≡ patch_with options request after each → patch ≡ patch_of c options job
patch_is c options job request first second after each patch is one two made =
    made ∙ ap (λ (r : Request). patch_with options r after each) (ap (λ (l : Looked). l.0) is)
    ∙ ap (λ (l : Option (List ℕ)). patch_with options (request_of c options job.request).0 l each)
    (known_lists c options job.owner (codes "-hold_jid") after (one ∙ ap (λ (l : Looked). l.1) is))
    ∙ ap (λ (l : Option (List ℕ)). patch_with options (request_of c options job.request).0 (option_map (predecessors c job.owner) (option_word options (codes "-hold_jid"))) l)
    (known_lists c options job.owner (codes "-hold_jid_ad") each (two ∙ ap (λ (l : Looked). l.2) is))

-- one patch more, where there is one
joined : (made : List (ℕ × Patch)) (o : Option (ℕ × Patch)) (rest : List (ℕ × Patch)) → made ++ option_to_list o ++ rest ≡ made ++ cons_option o rest
joined made None rest = ap (λ (ps : List (ℕ × Patch)). ps ++ rest) (append-nil made)
joined made (Some p) rest = append_assoc made (p ∷ []) rest

pub one_patched : (f : ℕ → Option (ℕ × Patch)) (numbers : List ℕ) (i : ℕ) (made new whole : List (ℕ × Patch)) (o : Option (ℕ × Patch)) → i < length numbers → o ≡ f (get_or numbers i 0)
    → new ≡ made ++ option_to_list o → made ++ filter_map f (drop i numbers) ≡ whole → new ++ filter_map f (drop (i + 1) numbers) ≡ whole
one_patched f numbers i made new whole o lt is puts so_far =
    let e : drop i numbers ≡ get_or numbers i 0 ∷ drop (i + 1) numbers = rw (add-one, drop-cons numbers i 0) in
    ap (λ (ps : List (ℕ × Patch)). ps ++ filter_map f (drop (i + 1) numbers)) puts ∙ joined made o (filter_map f (drop (i + 1) numbers))
    ∙ ap (λ (x : Option (ℕ × Patch)). made ++ cons_option x (filter_map f (drop (i + 1) numbers))) is
    ∙ sym (ap (λ (ns : List ℕ). made ++ filter_map f ns) e) ∙ so_far

-- a cycle is noted where predecessors are set
abbrev Patched : Type 0
Patched = Cluster × List (ℕ × Patch)

abbrev any_reaches : Patched → List (ℕ × Patch) → Bool
any_reaches w patches = list_any (λ patch. reaches_itself w.0 w.1 patch.0) patches

pub cycle_noted : (c : Cluster) (options : Given) (patches : List (ℕ × Patch)) (w : Patched) (sets closes : Bool) (x y : Option Refusal)
    → sets ≡ (has_option options (codes "-hold_jid") || has_option options (codes "-hold_jid_ad")) → sets ≡ true → ◌≡◌ {A = Patched} w (c, patches)
    → closes ≡ any_reaches w patches → y ≡ after_faults x (when closes Cycle) → y ≡ after_faults x (when (closes_a_cycle c options patches) Cycle)
cycle_noted c options patches w sets closes x y is on here any notes =
    notes ∙ ap (λ (b : Bool). after_faults x (when b Cycle)) (any ∙ ap (λ (v : Patched). any_reaches v patches) here
    ∙ sym (ap (λ (b : Bool). b && any_reaches (c, patches) patches) (sym is ∙ on)))

pub behind_of : (c : Cluster) (e : Event) (options : Given) (numbers once : List ℕ) (patches : List (ℕ × Patch)) (noted faults : Option Refusal) → once ≡ each_number_once numbers
    → patches ≡ filter_map (patch_at c options) once → faults ≡ after_faults noted (when (closes_a_cycle c options patches) Cycle) → unless_refused faults (altered e patches) ≡ plan_behind c e options numbers noted
behind_of c e options numbers once patches noted faults one each all =
    ap (λ (o : Option Refusal). unless_refused o (altered e patches)) all
    ∙ ap (λ (ps : List (ℕ × Patch)). unless_refused (after_faults noted (when (closes_a_cycle c options ps) Cycle)) (altered e ps)) (each ∙ ap (filter_map (patch_at c options)) one)

module _ (c : Cluster) (e : Event) (options : Given) (numbers : List ℕ) (noted : Option Refusal) (is : noted ≡ after_faults None (flat_map (alter_faults c e options) numbers)) where
  whole : (t : Bool) → first_fault (flat_map (alter_faults c e options) numbers ++ when t Cycle) ≡ after_faults noted (when t Cycle)
  whole t = after_faults-append None (flat_map (alter_faults c e options) numbers) (when t Cycle) ∙ ap (λ (x : Option Refusal). after_faults x (when t Cycle)) (sym is)

  pub settled_plan : (refusal : Refusal) → ((t : Bool) → after_faults noted (when t Cycle) ≡ Some refusal) → refused refusal ≡ alter_plan c e options numbers
  unfolding alter_plan
  settled_plan refusal stays =
      sym (ap (λ (o : Option Refusal). unless_refused o (altered e (patches_of c options numbers)))
      (whole (closes_a_cycle c options (patches_of c options numbers)) ∙ stays (closes_a_cycle c options (patches_of c options numbers))))

  pub behind_plan : plan_behind c e options numbers noted ≡ alter_plan c e options numbers
  unfolding alter_plan
  behind_plan =
      sym (ap (λ (o : Option Refusal). unless_refused o (altered e (patches_of c options numbers))) (whole (closes_a_cycle c options (patches_of c options numbers))))
