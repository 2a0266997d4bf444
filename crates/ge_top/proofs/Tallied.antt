-- How many replies of a trace are counted.
use Rattle.std.proofs.Common.{◌≡◌, ℕ, ◌+◌, ◌*◌, ◌^◌, ◌<◌, ◌≤◌, Bool, true, false, if◌then◌else◌, List, [], ◌∷◌, ◌++◌, length, replicate, Option, Some, None, refl, ap, ◌∙◌, sym, subst, append_assoc, append-nil, arith}
use Rattle.std.specs.Prelude.{map, count_by, sum_by}
use Rattle.std.proofs.lemmas.List.{length-append, length-replicate, length-map}
use Rattle.std.proofs.Math.Seq.{take-length}
use Rattle.std.proofs.lemmas.List.Sums.{count_by-le-length, sum_by_push}
use Rattle.ge_outside.specs.Streams.{Gains, GainsPrefix}
use Rattle.ge_model_rows.specs.ClusterRows.{Cluster, opening_cluster}
use Rattle.ge_model_rows.specs.EventRows.{Event, Reply}
use Rattle.ge_model_grammar.specs.Events.{event_of, events_of}
use Rattle.ge_model_core.specs.Plan.{plan_of}
use Rattle.ge_model_core.specs.Trace.{answer_of, after_entries}
use Rattle.ge_model_grammar.specs.Generated.{generated_requests, generated_script}
use Rattle.ge_model_program.specs.Trials.{replies_of, is_accepted, starts_in, trial_line, trial_of, HasMarks}
use Rattle.ge_script.specs.Left.{IsNext}
use Rattle.ge_script.proofs.WholeScript.{events_of-generated, requests-few}
use Rattle.ge_top.specs.declared.tallying.Tally.{Tally}
use Rattle.ge_top.specs.Tallies.{HasRoom, Adds, IsCounted, IsTallied, tally_line}
use Rattle.ge_top.proofs.Held.{Gains-nothing}

-- the replies so far are counted, and the trace goes on with what is left from the cluster that was reached
pub record HasTallied (tally : Tally) (start : Cluster) (events : List Event) (reached : Cluster) (rest : List Event) : Type 0 where
  pub marks : List Bool
  pub replies : List Reply
  pub goes_on : (more : List Bool) → replies_of start events (marks ++ more) ≡ replies ++ replies_of reached rest more
  pub counted : length marks + length rest ≡ length events
  pub told : length replies ≡ length marks
  pub requests : tally.requests ≡ length replies
  pub accepted : tally.accepted ≡ count_by is_accepted replies
  pub starts : tally.starts ≡ sum_by starts_in replies
  pub bounded : tally.starts ≤ tally.requests * 2 ^ 64

pub tallied-none : (tally : Tally) (start reached : Cluster) (events rest : List Event) → tally.requests ≡ 0 → tally.accepted ≡ 0 → tally.starts ≡ 0 → rest ≡ events → reached ≡ start
    → HasTallied tally start events reached rest
tallied-none tally start reached events rest requests accepted starts is first = rw (is, first) (record {
  marks = [];
  replies = [];
  goes_on = λ more. refl;
  counted = omega arith;
  told = refl;
  requests = requests;
  accepted = accepted;
  starts = starts;
  bounded = omega (arith, starts);
})

count-append : (replies : List Reply) (reply : Reply) → count_by is_accepted (replies ++ reply ∷ []) ≡ count_by is_accepted replies + (if is_accepted reply then 1 else 0)
count-append replies reply = sum_by_push (λ (r : Reply). if is_accepted r then 1 else 0) replies reply

-- the trace from an event on, where it doesn't stop the master, and where it does
replies-going : (c new : Cluster) (event : Event) (rest : List Event) (mark : Bool) (more : List Bool)
    → (answer_of plan_of c event mark).stop ≡ false → new ≡ after_entries c (answer_of plan_of c event mark).entry
    → replies_of c (event ∷ rest) (mark ∷ more) ≡ (answer_of plan_of c event mark).reply ∷ replies_of new rest more
replies-going c new event rest mark more going cluster = rw (cluster, going) refl

replies-stopped : (c : Cluster) (event : Event) (rest : List Event) (mark : Bool) (more : List Bool) → (answer_of plan_of c event mark).stop ≡ true
    → replies_of c (event ∷ rest) (mark ∷ more) ≡ (answer_of plan_of c event mark).reply ∷ []
replies-stopped c event rest mark more stopped = rw stopped refl

-- an event more
pub tallied-more : (before after : Tally) (start reached new : Cluster) (events rest : List Event) (event : Event)
    → HasTallied before start events reached (event ∷ rest) → IsCounted reached event before after false new → HasTallied after start events new rest
tallied-more before after start reached new events rest event so_far is =
    let reply = (answer_of plan_of reached event is.mark).reply in
    record {
      marks = so_far.marks ++ is.mark ∷ [];
      replies = so_far.replies ++ reply ∷ [];
      goes_on = λ more. ap (replies_of start events) (append_assoc so_far.marks (is.mark ∷ []) more)
          ∙ so_far.goes_on (is.mark ∷ more)
          ∙ ap (λ z. so_far.replies ++ z) (replies-going reached new event rest is.mark more (sym is.stops) is.cluster)
          ∙ sym (append_assoc so_far.replies (reply ∷ []) (replies_of new rest more));
      counted = omega (arith, length-append so_far.marks (is.mark ∷ []), so_far.counted);
      told = omega (arith, length-append so_far.marks (is.mark ∷ []), length-append so_far.replies (reply ∷ []), so_far.told);
      requests = omega (arith, is.adds.requests, so_far.requests, length-append so_far.replies (reply ∷ []));
      accepted = is.adds.accepted ∙ ap (λ n. n + (if is_accepted reply then 1 else 0)) so_far.accepted ∙ sym (count-append so_far.replies reply);
      starts = omega (arith, is.adds.starts, so_far.starts, sum_by_push starts_in so_far.replies reply);
      bounded = omega (arith, is.adds.starts, is.adds.few, is.adds.requests, so_far.bounded);
    }

-- one request more can be counted
pub tallied-room : (tally : Tally) (start reached : Cluster) (events rest : List Event) (event : Event) → HasTallied tally start events reached (event ∷ rest)
    → length events < 2 ^ 40 → HasRoom tally
tallied-room tally start reached events rest event so_far few = record {
  requests = omega (arith, so_far.requests, so_far.told, so_far.counted);
  accepted = omega (arith, so_far.requests, so_far.accepted, count_by-le-length is_accepted so_far.replies);
  starts = so_far.bounded;
}

-- the line of the counts is that of the replies
line-of : (tally : Tally) (replies : List Reply) → tally.requests ≡ length replies → tally.accepted ≡ count_by is_accepted replies → tally.starts ≡ sum_by starts_in replies
    → tally_line tally ≡ trial_line replies
line-of tally replies requests accepted starts = rw (requests, accepted, starts) refl

-- all events are answered
pub tallied-all : (tally : Tally) (reached : Cluster) (number : ℕ) (rest : List Event)
    → HasTallied tally opening_cluster (events_of (generated_script number)) reached rest → rest ≡ [] → IsTallied number tally
tallied-all tally reached number rest so_far none =
    let replies : replies_of opening_cluster (events_of (generated_script number)) so_far.marks ≡ so_far.replies =
    ap (replies_of opening_cluster (events_of (generated_script number))) (sym (append-nil so_far.marks)) ∙ so_far.goes_on [] ∙ append-nil so_far.replies in
    record {
      marks = so_far.marks;
      counted = omega (arith, so_far.counted, ap length none);
      line = line-of tally so_far.replies so_far.requests so_far.accepted so_far.starts ∙ ap trial_line (sym replies);
      accepted = omega (arith, so_far.requests, so_far.accepted, count_by-le-length is_accepted so_far.replies);
    }

-- the last event stops the master
pub tallied-stopped : (before after : Tally) (reached new : Cluster) (number : ℕ) (rest : List Event) (event : Event)
    → HasTallied before opening_cluster (events_of (generated_script number)) reached (event ∷ rest) → IsCounted reached event before after true new → IsTallied number after
tallied-stopped before after reached new number rest event so_far is =
    let reply = (answer_of plan_of reached event is.mark).reply in
    let more = replicate (length rest) false in
    let replies : replies_of opening_cluster (events_of (generated_script number)) (so_far.marks ++ is.mark ∷ more) ≡ so_far.replies ++ reply ∷ [] =
    so_far.goes_on (is.mark ∷ more) ∙ ap (λ z. so_far.replies ++ z) (replies-stopped reached event rest is.mark more (sym is.stops)) in
    let requests : after.requests ≡ length (so_far.replies ++ reply ∷ []) =
    omega (arith, is.adds.requests, so_far.requests, length-append so_far.replies (reply ∷ [])) in
    let accepted : after.accepted ≡ count_by is_accepted (so_far.replies ++ reply ∷ []) =
    is.adds.accepted ∙ ap (λ n. n + (if is_accepted reply then 1 else 0)) so_far.accepted ∙ sym (count-append so_far.replies reply) in
    let starts : after.starts ≡ sum_by starts_in (so_far.replies ++ reply ∷ []) =
    omega (arith, is.adds.starts, so_far.starts, sum_by_push starts_in so_far.replies reply) in
    record {
      marks = so_far.marks ++ is.mark ∷ more;
      counted = omega (arith, length-append so_far.marks (is.mark ∷ more), length-replicate (length rest) false, so_far.counted);
      line = line-of after (so_far.replies ++ reply ∷ []) requests accepted starts ∙ ap trial_line (sym replies);
      accepted = omega (arith, requests, accepted, count_by-le-length is_accepted (so_far.replies ++ reply ∷ []));
    }

-- what is written of the line
abbrev Wrote : ℕ → (List ℕ → Type 0) → Type 0
Wrote number P = (marks : List Bool) × HasMarks number marks × P (trial_of number marks)

pub line-wrote : (number : ℕ) (tally : Tally) (line : List ℕ) (P : List ℕ → Type 0) → IsTallied number tally → line ≡ tally_line tally → P line → Wrote number P
line-wrote number tally line P is same holds = (is.marks, is.counted, subst P (same ∙ is.line) holds)

-- where nothing is, that is a front of any line
pub line-unwritten : (number : ℕ) (old : Option (List ℕ)) → Wrote number (λ line. GainsPrefix old old line)
line-unwritten number old =
    let events = events_of (generated_script number) in
    (replicate (length events) false, length-replicate (length events) false, (0, omega arith, Gains-nothing old))

-- what is gained whole is gained as a front
pub whole-front : (old now : Option (List ℕ)) (bytes : List ℕ) → Gains old now bytes → GainsPrefix old now bytes
whole-front old now bytes gains = (length bytes, omega arith, rw (take-length bytes) gains)

-- the events of the script are those of its requests, and there are few
pub events-begin : (number : ℕ) (left : List (List ℕ)) → left ≡ generated_requests number → map event_of left ≡ events_of (generated_script number)
events-begin number left is = ap (map event_of) is ∙ sym (events_of-generated number)

pub events-few : (number : ℕ) → number < 2 ^ 32 → length (events_of (generated_script number)) < 2 ^ 40
events-few number small =
    let same : length (events_of (generated_script number)) ≡ length (generated_requests number) =
    ap length (events_of-generated number) ∙ length-map (generated_requests number) event_of in
    omega (arith, same, requests-few number)

-- the next request is the next event
pub tallied-at : (tally : Tally) (start reached : Cluster) (events : List Event) (left next : List (List ℕ)) (request : List ℕ) (event : Event)
    → HasTallied tally start events reached (map event_of left) → IsNext left next (Some request) → event ≡ event_of request
    → HasTallied tally start events reached (event ∷ map event_of next)
tallied-at tally start reached events left next request event so_far is same =
    let list : map event_of left ≡ event ∷ map event_of next = ap (map event_of) is ∙ (λ i. sym same i ∷ map event_of next) in
    subst (λ z. HasTallied tally start events reached z) list so_far
