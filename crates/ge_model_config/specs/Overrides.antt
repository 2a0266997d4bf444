-- Values of a queue with overrides: VALUE,[HOST=VALUE],[@GROUP=VALUE] (queue_conf).
use Rattle.std.specs.Prelude.{ℕ, Bool, true, false, ◌&&◌, ◌==◌, if◌then◌else◌, List, [], ◌∷◌, ◌++◌, map, flat_map, Option, Some, None, is_some, codes}
use Rattle.std.specs.List.{list_all}
use Rattle.std.specs.Option.{option_and_then}
use Rattle.ge_base.specs.declared.refusal.Refusal.TheVariants.{BadValue}
use Rattle.ge_model_rows.specs.ClusterRows.{Cluster, plain_attr}
use Rattle.ge_model_rows.specs.QueueRows.{Attr}
use Rattle.ge_model_text.specs.Words.{is_blank}
use Rattle.ge_model_rows.specs.Pieces.{pieces_at, trimmed, has_byte, before_byte, behind_byte}
use Rattle.ge_model_grammar.specs.Bodies.{attribute_in}
use Rattle.ge_model_config.specs.Cited.{Read, cited, is_host_or_group}

-- what stands behind a byte that comes first, blanks before it left aside
abbrev pub behind_byte_first : ℕ → List ℕ → Option (List ℕ)
behind_byte_first byte [] = None
behind_byte_first byte (b ∷ rest) = elim (is_blank b) [ true ↦ behind_byte_first byte rest | false ↦ if b == byte then Some rest else None ]

-- overrides begin at a comma that an opening bracket follows
abbrev pub begins_overrides : ℕ → List ℕ → Bool
begins_overrides b rest = b == 44 && is_some (behind_byte_first 91 rest)

-- what stands before the first such comma
abbrev pub plain_part : List ℕ → List ℕ
plain_part [] = []
plain_part (b ∷ rest) = elim (begins_overrides b rest) [ true ↦ [] | false ↦ b ∷ plain_part rest ]

-- from that comma on
abbrev pub bracket_part : List ℕ → List ℕ
bracket_part [] = []
bracket_part (b ∷ rest) = elim (begins_overrides b rest) [ true ↦ b ∷ rest | false ↦ bracket_part rest ]

-- a host or group and a value, by the first =
abbrev pub key_and_value : List ℕ → Option (List ℕ × List ℕ)
key_and_value inside = if has_byte 61 inside then Some (before_byte 61 inside, behind_byte 61 inside) else None

-- an override up to its closing bracket: a comma, an opening bracket, HOST=VALUE
abbrev pub override_of : List ℕ → Option (List ℕ × List ℕ)
override_of text = option_and_then key_and_value (option_and_then (behind_byte_first 91) (behind_byte_first 44 text))

-- one more before those, if both can be read
abbrev pub before_others : Option (List ℕ × List ℕ) → Option (List (List ℕ × List ℕ)) → Option (List (List ℕ × List ℕ))
before_others (Some pair) (Some pairs) = Some (pair ∷ pairs)
before_others _ _ = None

-- the overrides that stand before each closing bracket; nothing but blanks may stand behind the last one
abbrev pub overrides_between : List (List ℕ) → Option (List (List ℕ × List ℕ))
overrides_between [] = Some []
overrides_between (text ∷ []) = if list_all is_blank text then Some [] else None
overrides_between (text ∷ next ∷ more) = before_others (override_of text) (overrides_between (next ∷ more))

-- the overrides of a value as written: none at all where a bracket can't be read
abbrev pub overrides_of : List ℕ → Option (List (List ℕ × List ℕ))
overrides_of text = overrides_between (pieces_at 93 (bracket_part text))

module _ {T : Type 0} where
  -- a value that has to be there
  abbrev pub filled : T → (List ℕ → Read T) → List ℕ → Read T
  filled fallback read [] = (fallback, BadValue ∷ [])
  filled fallback read (b ∷ text) = read (b ∷ text)

  -- an override: its host or group has to be there
  abbrev pub override_read : Cluster → T → (List ℕ → Read T) → List ℕ × List ℕ → Read (List ℕ × T)
  override_read c fallback read pair =
      let value = filled fallback read pair.1 in
      ((pair.0, value.0), cited (is_host_or_group c) (pair.0 ∷ []) ++ value.1)

  -- the plain value and its overrides
  abbrev pub attr_with : Cluster → T → (List ℕ → Read T) → List ℕ → Option (List (List ℕ × List ℕ)) → Read (Attr T)
  attr_with c fallback read plain None = (plain_attr fallback, BadValue ∷ [])
  attr_with c fallback read plain (Some pairs) =
      let value = filled fallback read plain in
      let others = map (override_read c fallback read) pairs in
      (record { plain = value.0; overrides = map (λ o. o.0) others }, value.1 ++ flat_map (λ o. o.1) others)

  -- an attribute of a queue, or its default where the body leaves it out
  abbrev pub attr_read : Cluster → List (List ℕ × List ℕ) → List ℕ → Attr T → (List ℕ → Read T) → Read (Attr T)
  attr_read c values attribute fallback read =
      elim (attribute_in values attribute) [
        | None ↦ (fallback, [])
        | Some text ↦ attr_with c fallback.plain read (trimmed (plain_part text)) (overrides_of text)
      ]

  -- ,[HOST=VALUE]
  abbrev pub override_text : (T → List ℕ) → List ℕ × T → List ℕ
  override_text show o = codes ",[" ++ o.0 ++ codes "=" ++ show o.1 ++ codes "]"

  -- a value and its overrides, in the order in which they were written
  abbrev pub attr_text : (T → List ℕ) → Attr T → List ℕ
  attr_text show attr = show attr.plain ++ flat_map (override_text show) attr.overrides
