-- The rows are canonical.
use Rattle.std.proofs.Common.{◌≡◌, [], length, refl}
use Rattle.std.specs.Prelude.{IsTrue, ◌==◌}
use Rattle.std.proofs.lemmas.Bool.{eqb-true}
use Rattle.std.proofs.lemmas.List.{nil_from_length}
use Rattle.std.specs.Ordering.{nat_cmp}
use Rattle.ge_rows.specs.Keyed.{text_cmp}
use Rattle.ge_model_rows.specs.JobRows.{Job}
use Rattle.ge_model_rows.specs.ValueRows.{ComplexDef}
use Rattle.ge_model_codec.specs.Code.{Code, u32_code, u64_code, u128_code, text_code, triple_code}
use Rattle.ge_model_codec.specs.Canonical.{IsCanonical}
use Rattle.ge_model_codec.specs.Cluster.{cluster_code, cluster_code_1, cluster_front_code, Booked, is_unbooked, usage_key_cmp}
use Rattle.ge_model_codec.specs.Configured.{texts_code, host_row_code, pe_row_code, project_row_code, queue_row_code, quota_row_code, share_node_code, user_row_code}
use Rattle.ge_codec.specs.ConfiguredLaws.{complex_def_canonical, complex_def_canonical_1, texts_canonical, host_row_canonical, pe_row_canonical, project_row_canonical, queue_row_canonical, quota_row_canonical, sched_canonical, share_node_canonical, user_row_canonical}
use Rattle.ge_model_codec.specs.Jobs.{advance_code, line_code}
use Rattle.ge_codec.specs.JobLaws.{job_canonical, job_canonical_1, advance_canonical, line_canonical}
use Rattle.ge_codec.specs.Numbers.{u32_canonical, u64_canonical, u128_canonical}
use Rattle.ge_codec.specs.Parts.{text_canonical, list_canonical}
use Rattle.ge_codec.specs.Entries.{table_canonical}
use Rattle.ge_codec.specs.Laws.{pair_canonical, row_canonical, triple_canonical, quadruple_canonical, quintuple_canonical, absent_canonical}
use Rattle.ge_codec.specs.Places.{both}

cluster_front_canonical : {complex : Code ComplexDef} {job : Code Job} → IsCanonical complex → IsCanonical job
    → IsCanonical (cluster_front_code complex job)
cluster_front_canonical {complex} {job} c j = quintuple_canonical
    (quadruple_canonical u64_canonical u64_canonical u32_canonical u64_canonical)
    (table_canonical text_cmp text_code complex text_canonical c)
    (quintuple_canonical
    (table_canonical text_cmp text_code host_row_code text_canonical host_row_canonical)
    (table_canonical text_cmp text_code texts_code text_canonical texts_canonical)
    (table_canonical text_cmp text_code queue_row_code text_canonical queue_row_canonical)
    (table_canonical text_cmp text_code pe_row_code text_canonical pe_row_canonical)
    (table_canonical text_cmp text_code quota_row_code text_canonical quota_row_canonical))
    (quintuple_canonical
    (table_canonical text_cmp text_code texts_code text_canonical texts_canonical)
    (table_canonical text_cmp text_code user_row_code text_canonical user_row_canonical)
    (table_canonical text_cmp text_code project_row_code text_canonical project_row_canonical)
    (table_canonical nat_cmp u32_code share_node_code u32_canonical share_node_canonical)
    sched_canonical)
    (triple_canonical
    (pair_canonical texts_canonical texts_canonical)
    (table_canonical nat_cmp u32_code job u32_canonical j)
    (pair_canonical
    (table_canonical usage_key_cmp (triple_code text_code text_code u64_code) u128_code
    (triple_canonical text_canonical text_canonical u64_canonical) u128_canonical)
    (list_canonical line_code line_canonical)))

pub cluster_canonical : IsCanonical cluster_code
cluster_canonical = row_canonical
    (pair_canonical
    (cluster_front_canonical complex_def_canonical job_canonical)
    (pair_canonical u32_canonical (table_canonical nat_cmp u32_code advance_code u32_canonical advance_canonical)))
    _ _ (λ r. refl) (λ p. refl)

-- no advance reservation was made: the next is 1 and there are none
unbooked_is : (b : Booked) → IsTrue (is_unbooked b) → b ≡ (1, [])
unbooked_is b h =
    let each = both (b.0 == 1) (length b.1 == 0) h in
    let next : b.0 ≡ 1 = eqb-true b.0 1 each.0 in
    let none : b.1 ≡ [] = nil_from_length b.1 (eqb-true (length b.1) 0 each.1) in
    (λ i. (next i, none i))

pub cluster_canonical_1 : IsCanonical cluster_code_1
cluster_canonical_1 = row_canonical
    (pair_canonical
    (cluster_front_canonical complex_def_canonical_1 job_canonical_1)
    (absent_canonical is_unbooked (1, []) unbooked_is refl))
    _ _ (λ r. refl) (λ p. refl)
