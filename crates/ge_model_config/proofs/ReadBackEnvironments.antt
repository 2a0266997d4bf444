-- A printed parallel environment reads back.
use Rattle.std.proofs.Common.{◌≡◌, ℕ, ◌≤◌, Bool, true, false, if◌then◌else◌, List, [], ◌∷◌, ◌++◌, Some, decimal, refl, ap, ◌∙◌, arith, codes}
use Rattle.ge_collections.specs.Keyed.{text_eq}
use Rattle.ge_model_rows.specs.ClusterRows.{Cluster}
use Rattle.ge_model_rows.specs.EntryRows.{Item, ObjectKind}
use Rattle.ge_model_rows.specs.PeRows.{PeRow, Allocation, UrgencySlots}
use Rattle.ge_model_rows.specs.ValueRows.{Kind, infinity}
use Rattle.ge_model_rows.specs.Pieces.{list_items, list_text}
use Rattle.ge_model_rows.specs.Values.{value_of}
use Rattle.ge_model_grammar.specs.declared.Body.{Body}
use Rattle.ge_model_grammar.specs.declared.Body.TheVariants.{Attributes}
use Rattle.ge_model_grammar.specs.Bodies.{body_of}
use Rattle.ge_model_config.specs.Cited.{Read, number_read, has_name, cited, given, none_text}
use Rattle.ge_model_config.specs.Named.{name_faults}
use Rattle.ge_model_config.specs.Environments.{slots_read, allocation_read, assumed_read, pe_item, allocation_text, assumed_text}
use Rattle.ge_model_config.specs.Reading.{item_of}
use Rattle.ge_model_config.specs.Printing.{printed}
use Rattle.ge_model_config.proofs.ReadBackTexts.{is_shown}
use Rattle.ge_model_config.proofs.ReadBackBodies.{body_back}
use Rattle.ge_model_config.proofs.ReadBackLists.{list_shown, list_back}
use Rattle.ge_model_config.proofs.ReadBackNames.{HasNames, name_item, item_shown, both_empty, none_behind, named_by}
use Rattle.ge_model_config.proofs.ReadBackNumbers.{number_back, in_range, decimal_shown, decimal_no_word}
use Rattle.ge_model_config.proofs.ReadBack.{are_slots, IsAllocation, IsAssumed, IsEnvironment, IsRead, faults_of_name, ReadsBack, ReadFrom, read_from}
use Rattle.ge_model_config.proofs.ReadBackPeople.{sets_are}

-- ---- a rule of allocation, and what urgency assumes

slots_back : (n : ℕ) → are_slots n ≡ true → slots_read (decimal n) ≡ (n, [])
slots_back n is = number_back 1 1000000 n (let small : n ≤ 1000000 = grind arith in omega arith) is

-- what is read by the word that a text is, or else as a number
abbrev allocated : Bool → Bool → Bool → Read ℕ → Read Allocation
allocated pe_slots fill_up round_robin slots =
    if pe_slots then (Allocation.PeSlots, []) else (if fill_up then (Allocation.FillUp, []) else (if round_robin then (Allocation.RoundRobin, []) else (Allocation.Fixed slots.0, slots.1)))

abbrev assumption_of : Bool → Bool → Bool → Read ℕ → Read UrgencySlots
assumption_of min max avg slots =
    if min then (UrgencySlots.Min, []) else (if max then (UrgencySlots.Max, []) else (if avg then (UrgencySlots.Avg, []) else (UrgencySlots.Fixed slots.0, slots.1)))

allocation_back : (rule : Allocation) → IsAllocation rule → allocation_read (allocation_text rule) ≡ (rule, [])
allocation_back (Allocation.Fixed n) is =
    (λ i. allocated (decimal_no_word n 36 (codes "pe_slots") refl i) (decimal_no_word n 36 (codes "fill_up") refl i) (decimal_no_word n 36 (codes "round_robin") refl i) (slots_read (decimal n)))
    ∙ ap (allocated false false false) (slots_back n is)
allocation_back Allocation.PeSlots is = refl
allocation_back Allocation.FillUp is = refl
allocation_back Allocation.RoundRobin is = refl

assumed_back : (slots : UrgencySlots) → IsAssumed slots → assumed_read (assumed_text slots) ≡ (slots, [])
assumed_back (UrgencySlots.Fixed n) is =
    (λ i. assumption_of (decimal_no_word n 109 (codes "in") refl i) (decimal_no_word n 109 (codes "ax") refl i) (decimal_no_word n 97 (codes "vg") refl i) (slots_read (decimal n)))
    ∙ ap (assumption_of false false false) (slots_back n is)
assumed_back UrgencySlots.Min is = refl
assumed_back UrgencySlots.Max is = refl
assumed_back UrgencySlots.Avg is = refl

allocation_shown : (rule : Allocation) → is_shown (allocation_text rule) ≡ true
allocation_shown (Allocation.Fixed n) = decimal_shown n
allocation_shown Allocation.PeSlots = refl
allocation_shown Allocation.FillUp = refl
allocation_shown Allocation.RoundRobin = refl

assumed_shown : (slots : UrgencySlots) → is_shown (assumed_text slots) ≡ true
assumed_shown (UrgencySlots.Fixed n) = decimal_shown n
assumed_shown UrgencySlots.Min = refl
assumed_shown UrgencySlots.Max = refl
assumed_shown UrgencySlots.Avg = refl

slots_are : (text : List ℕ) → (slots_read text).1 ≡ [] → are_slots (slots_read text).0 ≡ true
slots_are text none = in_range 1 1000000 (value_of Kind.Int text) none

-- what is read without a refusal
abbrev FitsAllocation : Read Allocation → Type 0
FitsAllocation rule = rule.1 ≡ [] → IsAllocation rule.0

abbrev FitsAssumed : Read UrgencySlots → Type 0
FitsAssumed slots = slots.1 ≡ [] → IsAssumed slots.0

allocation_is : (text : List ℕ) → FitsAllocation (allocation_read text)
allocation_is text = by (text_eq text (codes "$pe_slots")) (text_eq text (codes "$fill_up")) (text_eq text (codes "$round_robin"))
  where
    by : (pe_slots fill_up round_robin : Bool) → FitsAllocation (allocated pe_slots fill_up round_robin (slots_read text))
    by true fill_up round_robin none = tt
    by false true round_robin none = tt
    by false false true none = tt
    by false false false none = slots_are text none

assumed_is : (text : List ℕ) → FitsAssumed (assumed_read text)
assumed_is text = by (text_eq text (codes "min")) (text_eq text (codes "max")) (text_eq text (codes "avg"))
  where
    by : (min max avg : Bool) → FitsAssumed (assumption_of min max avg (slots_read text))
    by true max avg none = tt
    by false true avg none = tt
    by false false true none = tt
    by false false false none = slots_are text none

-- ---- parallel environments

-- an environment of what is read
abbrev environment_with : Cluster → Bool → List ℕ → Read ℕ → List (List ℕ) → List (List ℕ) → Read Allocation → Read UrgencySlots → Read Item
environment_with c adding name slots users xusers rule urgency = (
  Item.Pe name (record { slots = slots.0; users = users; xusers = xusers; rule = rule.0; urgency_slots = urgency.0 }),
  name_faults ObjectKind.Pe 256 c.pes adding name ++ slots.1 ++ cited (has_name c.sets) users ++ cited (has_name c.sets) xusers ++ rule.1 ++ urgency.1,
)

-- a parallel environment is printed as it is read
pub environment_back : (c : Cluster) (name : List ℕ) (pe : PeRow) → IsEnvironment c name pe → (ended : Bool) → ReadsBack c ObjectKind.Pe (Item.Pe name pe) ended
unfolding printed item_of pe_item
environment_back c name pe is ended = record {
  body = Attributes ((codes "pe_name", name) ∷ values);
  parsed = body_back ObjectKind.Pe (codes "pe_name", name) values ended (λ lines. refl) refl refl (
    item_shown name (name_item name is.named),
    (
      decimal_shown pe.slots,
      (
        list_shown pe.users is.users.listed.pass,
        (
          list_shown pe.xusers is.xusers.listed.pass,
          (allocation_shown pe.rule, (assumed_shown pe.urgency_slots, tt)),
        ),
      ),
    ),
  );
  again = λ adding.
      (λ i. environment_with c adding name (slots_again i) (list_back pe.users is.users.listed i) (list_back pe.xusers is.xusers.listed i) (allocation_back pe.rule is.rule i) (assumed_back pe.urgency_slots is.urgency i))
      ∙ ap (λ z. (Item.Pe name pe, z))
      (none_behind _ [] refl ∙ none_behind _ [] refl ∙ none_behind _ _ is.xusers.known ∙ none_behind _ _ is.users.known ∙ none_behind (name_faults ObjectKind.Pe 256 c.pes adding name) [] refl);
}
  where
    values : List (List ℕ × List ℕ)
    values =
        (codes "slots", decimal pe.slots) ∷ (codes "user_lists", list_text pe.users) ∷ (codes "xuser_lists", list_text pe.xusers)
        ∷ (codes "allocation_rule", allocation_text pe.rule) ∷ (codes "urgency_slots", assumed_text pe.urgency_slots) ∷ []

    slots_again : number_read Kind.Int 0 infinity (decimal pe.slots) ≡ (pe.slots, [])
    slots_again = number_back 0 infinity pe.slots (let s = is.slots in let small : pe.slots ≤ infinity = grind arith in omega arith) is.slots

-- what is read without a refusal is a parallel environment
pub environments_read : (c : Cluster) (adding : Bool) (text : List ℕ) (body : Body) (thing : Item) → HasNames c → body_of ObjectKind.Pe text ≡ Some body
    → item_of c ObjectKind.Pe adding body ≡ (thing, []) → IsRead c ObjectKind.Pe thing × (faults_of_name c adding thing ≡ [])
unfolding item_of pe_item
environments_read c adding text body thing names = read_from c ObjectKind.Pe adding text body thing (λ lines. refl) each
  where
    each : (values : List (List ℕ × List ℕ)) → ReadFrom c ObjectKind.Pe adding (item_of c ObjectKind.Pe adding (Attributes values))
    each values none =
        let name = given values (codes "pe_name") [] in
        let slots = number_read Kind.Int 0 infinity (given values (codes "slots") (codes "0")) in
        let users = given values (codes "user_lists") none_text in
        let xusers = given values (codes "xuser_lists") none_text in
        let rule = given values (codes "allocation_rule") (codes "$pe_slots") in
        let urgency = given values (codes "urgency_slots") (codes "min") in
        let faults = name_faults ObjectKind.Pe 256 c.pes adding name in
        let lists = faults ++ slots.1 ++ cited (has_name c.sets) (list_items users) in
        let all = both_empty (lists ++ cited (has_name c.sets) (list_items xusers) ++ (allocation_read rule).1) (assumed_read urgency).1 none in
        let most = both_empty (lists ++ cited (has_name c.sets) (list_items xusers)) (allocation_read rule).1 all.0 in
        let half = both_empty lists (cited (has_name c.sets) (list_items xusers)) most.0 in
        let few = both_empty (faults ++ slots.1) (cited (has_name c.sets) (list_items users)) half.0 in
        let front = both_empty faults slots.1 few.0 in (
          record {
            named = named_by ObjectKind.Pe 256 c.pes adding name front.0;
            slots = in_range 0 infinity (value_of Kind.Int (given values (codes "slots") (codes "0"))) front.1;
            users = sets_are c users names few.1;
            xusers = sets_are c xusers names half.1;
            rule = allocation_is rule most.1;
            urgency = assumed_is urgency all.1;
          },
          front.0,
        )
