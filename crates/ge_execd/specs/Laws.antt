-- A daemon's bytes are canonical.
use Rattle.std.proofs.Common.{◌≡◌, Option, Some, None, refl}
use Rattle.std.specs.Ordering.{nat_cmp}
use Rattle.ge_model_codec.specs.Canonical.{IsCanonical}
use Rattle.ge_model_codec.specs.Code.{u32_code, u64_code, quadruple_code}
use Rattle.ge_codec.specs.Numbers.{u32_canonical, u64_canonical}
use Rattle.ge_codec.specs.Parts.{text_canonical, option_canonical}
use Rattle.ge_codec.specs.Entries.{table_canonical}
use Rattle.ge_codec.specs.Laws.{triple_canonical, quadruple_canonical, row_canonical}
use Rattle.ge_execd.specs.declared.rows.Stage.{Stage}
use Rattle.ge_execd.specs.declared.rows.Stage.TheVariants.{Claimed, Ended}
use Rattle.ge_execd.specs.Bytes.{End, end_in, stage_of, stage_code, daemon_parts, daemon_of, daemon_code}

stage_back : (s : Stage) → stage_of (end_in s) ≡ s
stage_back Claimed = refl
stage_back (Ended exit cpu mem io) = refl

stage_same : (e : Option End) → end_in (stage_of e) ≡ e
stage_same None = refl
stage_same (Some end) = refl

pub stage_canonical : IsCanonical stage_code
stage_canonical = row_canonical (option_canonical (quadruple_code u32_code u64_code u64_code u64_code) (quadruple_canonical u32_canonical u64_canonical u64_canonical u64_canonical)) end_in stage_of stage_back stage_same

pub daemon_canonical : IsCanonical daemon_code
daemon_canonical = row_canonical
    (triple_canonical text_canonical u64_canonical (table_canonical nat_cmp u64_code stage_code u64_canonical stage_canonical))
    daemon_parts daemon_of (λ d. refl) (λ parts. refl)
