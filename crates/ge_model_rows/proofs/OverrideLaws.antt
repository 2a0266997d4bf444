-- Overrides are found by the keys that they are written under.
use Rattle.std.proofs.Common.{◌≡◌, ℕ, Bool, true, false, ◌&&◌, List, [], ◌∷◌, Option, Some, None, unwrap_or, find, cond, refl, ap, ◌∙◌}
use Rattle.std.specs.Map.{lookup}
use Rattle.std.specs.Option.{option_or, option_map}
use Rattle.ge_collections.specs.Keyed.{text_eq}
use Rattle.ge_model_rows.specs.HostRows.{Groups}
use Rattle.ge_model_rows.specs.QueueRows.{Attr}
use Rattle.ge_model_rows.specs.Groups.{is_group, group_has}
use Rattle.ge_model_rows.specs.Queues.{attr_at, host_override, group_override}

module _ {T : Type 0} where
  -- the first entry whose key passes has the value that is looked up
  found_by_key : (test : List ℕ → Bool) (entries : List (List ℕ × T)) → option_map (λ e. e.1) (find (λ e. test e.0) entries) ≡ lookup test entries
  found_by_key test [] = refl
  found_by_key test (e ∷ entries) = by (test e.0) (found_by_key test entries)
    where
      by : (passes : Bool) → option_map (λ e. e.1) (find (λ e. test e.0) entries) ≡ lookup test entries
          → option_map (λ e. e.1) (cond passes (Some e) (find (λ e. test e.0) entries)) ≡ cond passes (Some e.1) (lookup test entries)
      by true later = refl
      by false later = later

  -- an attribute at a host is what is looked up under the host, else under a group that has it, else the plain value
  pub attr_at-looked_up : (attr : Attr T) (groups : Groups) (host : List ℕ) → attr_at attr groups host
      ≡ unwrap_or (option_or (lookup (text_eq host) attr.overrides) (lookup (λ name. is_group name && group_has groups name host) attr.overrides)) attr.plain
  attr_at-looked_up attr groups host =
      by (host_override attr host) (group_override attr groups host)
      ∙ ap (λ at_host. unwrap_or (option_or at_host (option_map (λ o. o.1) (group_override attr groups host))) attr.plain) (found_by_key (text_eq host) attr.overrides)
      ∙ ap (λ at_group. unwrap_or (option_or (lookup (text_eq host) attr.overrides) at_group) attr.plain)
      (found_by_key (λ name. is_group name && group_has groups name host) attr.overrides)
    where
      by : (at_host at_group : Option (List ℕ × T))
          → elim at_host [ Some o ↦ o.1 | None ↦ elim at_group [ Some o ↦ o.1 | None ↦ attr.plain ] ]
          ≡ unwrap_or (option_or (option_map (λ o. o.1) at_host) (option_map (λ o. o.1) at_group)) attr.plain
      by (Some o) at_group = refl
      by None (Some o) = refl
      by None None = refl
