-- The rows are canonical.
use Rattle.std.proofs.Common.{ℕ, refl}
use Rattle.std.specs.Prelude.{◌==◌}
use Rattle.std.proofs.lemmas.Bool.{eqb-true}
use Rattle.std.specs.Ordering.{nat_cmp}
use Rattle.ge_model_rows.specs.TaskRows.{is_form}
use Rattle.ge_model_codec.specs.Code.{Code, u32_code, list_code}
use Rattle.ge_model_codec.specs.Canonical.{IsCanonical}
use Rattle.ge_model_codec.specs.Jobs.{instance_id_code, grant_code, task_id_code, task_span_code, task_set_code, running_code, pe_request_code, request_code, job_front_code, job_code, job_code_1, job_code_with, advance_code, line_code, start_code}
use Rattle.ge_codec.specs.ConfiguredLaws.{values_canonical, texts_canonical}
use Rattle.ge_codec.specs.Numbers.{u8_canonical, u32_canonical, u64_canonical}
use Rattle.ge_codec.specs.Parts.{bool_canonical, text_canonical, list_canonical, option_canonical}
use Rattle.ge_codec.specs.Entries.{table_canonical}
use Rattle.ge_codec.specs.Variants.{signed_canonical}
use Rattle.ge_codec.specs.Laws.{pair_canonical, triple_canonical, quadruple_canonical, quintuple_canonical, row_canonical, absent_canonical, formed_canonical}

pub instance_id_canonical : IsCanonical instance_id_code
instance_id_canonical = row_canonical (pair_canonical text_canonical text_canonical) _ _ (λ r. refl) (λ p. refl)

pub grant_canonical : IsCanonical grant_code
grant_canonical = row_canonical (pair_canonical instance_id_canonical u32_canonical) _ _ (λ r. refl) (λ p. refl)

pub task_id_canonical : IsCanonical task_id_code
task_id_canonical = row_canonical (pair_canonical u32_canonical u32_canonical) _ _ (λ r. refl) (λ p. refl)

pub task_span_canonical : IsCanonical task_span_code
task_span_canonical = row_canonical
    (triple_canonical u32_canonical u32_canonical u32_canonical)
    _ _ (λ r. refl) (λ p. refl)

pub task_set_canonical : IsCanonical task_set_code
task_set_canonical = formed_canonical (list_canonical task_span_code task_span_canonical) is_form

pub running_canonical : IsCanonical running_code
running_canonical = row_canonical
    (quadruple_canonical u64_canonical u64_canonical (list_canonical grant_code grant_canonical) bool_canonical)
    _ _ (λ r. refl) (λ p. refl)

pub pe_request_canonical : IsCanonical pe_request_code
pe_request_canonical = row_canonical
    (triple_canonical text_canonical u32_canonical u32_canonical)
    _ _ (λ r. refl) (λ p. refl)

pub request_canonical : IsCanonical request_code
request_canonical = row_canonical
    (triple_canonical values_canonical texts_canonical (option_canonical pe_request_code pe_request_canonical))
    _ _ (λ r. refl) (λ p. refl)

numbers_canonical : IsCanonical (list_code u32_code)
numbers_canonical = list_canonical u32_code u32_canonical

pub job_front_canonical : IsCanonical job_front_code
job_front_canonical = quintuple_canonical
    (quintuple_canonical u32_canonical text_canonical text_canonical text_canonical text_canonical)
    (quintuple_canonical u64_canonical signed_canonical u64_canonical text_canonical bool_canonical)
    (quintuple_canonical u64_canonical u64_canonical request_canonical bool_canonical task_span_canonical)
    (quintuple_canonical task_set_canonical task_set_canonical
    (table_canonical nat_cmp u32_code running_code u32_canonical running_canonical) u8_canonical numbers_canonical)
    (quadruple_canonical numbers_canonical u64_canonical texts_canonical text_canonical)

job_canonical_with : {advance : Code ℕ} → IsCanonical advance → IsCanonical (job_code_with advance)
job_canonical_with advance = row_canonical (pair_canonical job_front_canonical advance) _ _ (λ r. refl) (λ p. refl)

pub job_canonical : IsCanonical job_code
job_canonical = job_canonical_with u32_canonical

pub job_canonical_1 : IsCanonical job_code_1
job_canonical_1 = job_canonical_with (absent_canonical (λ n. n == 0) 0 (λ n h. eqb-true n 0 h) refl)

pub advance_canonical : IsCanonical advance_code
advance_canonical = row_canonical
    (triple_canonical
    (triple_canonical text_canonical text_canonical text_canonical)
    (pair_canonical u64_canonical u64_canonical)
    (pair_canonical request_canonical (list_canonical grant_code grant_canonical)))
    _ _ (λ r. refl) (λ p. refl)

pub line_canonical : IsCanonical line_code
line_canonical = row_canonical
    (quadruple_canonical
    (quintuple_canonical text_canonical text_canonical text_canonical text_canonical text_canonical)
    (quintuple_canonical u32_canonical text_canonical signed_canonical u64_canonical u64_canonical)
    (quintuple_canonical u64_canonical u32_canonical u32_canonical text_canonical text_canonical)
    (quintuple_canonical u32_canonical u32_canonical u64_canonical u64_canonical u64_canonical))
    _ _ (λ r. refl) (λ p. refl)

pub start_canonical : IsCanonical start_code
start_canonical = row_canonical
    (triple_canonical task_id_canonical u64_canonical (list_canonical grant_code grant_canonical))
    _ _ (λ r. refl) (λ p. refl)
