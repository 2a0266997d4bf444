use Rattle.std.proofs.Common.{◌≡◌, ◌<◌, ◌≤◌, ◌-◌, length, Some}
use Rattle.std.specs.Prelude.{slice_get}
use Rattle.ge_timeline.specs.declared.index.Entry.{Entry}
use Rattle.ge_timeline.specs.Shown.{number_in}
use Rattle.ge_timeline.specs.Scattered.{bucket_of}
use Rattle.ge_timeline.specs.Chains.{numbers_of, number_among}
use Rattle.ge_timeline.proofs.index.number_along.Given as goal

abbrev pub invariant-loop-place : goal.invariant-loop-place
invariant-loop-place l = record {
  within : l.place ≤ length l.entries;
  own : (entry : Entry) → slice_get l.entries (l.place - 1) ≡ Some entry → 0 < l.place → bucket_of (length l.heads) entry.limit ≡ bucket_of (length l.heads) l.limit;
  same : number_among l.entries l.place l.limit ≡ number_in (numbers_of l.entries) l.limit;
}

abbrev pub decreases-loop-place : goal.decreases-loop-place
decreases-loop-place l = l.place
