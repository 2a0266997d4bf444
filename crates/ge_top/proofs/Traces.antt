-- How far a trace has come, and how it goes on and ends.
use Rattle.std.proofs.Common.{◌≡◌, ℕ, ◌+◌, Bool, true, false, List, [], ◌∷◌, ◌++◌, length, replicate, Option, refl, ap, ◌∙◌, sym, append_assoc, arith}
use Rattle.std.proofs.lemmas.List.{length-append, length-replicate, append-nil}
use Rattle.std.proofs.Math.Seq.{take-length}
use Rattle.std.proofs.lemmas.Bool.{true≢false}
use Rattle.ge_model_grammar.specs.Sources.{IsReadToEnd}
use Rattle.ge_outside.specs.Streams.{Gains, GainsPrefix, Gains-append}
use Rattle.ge_model_rows.specs.ClusterRows.{Cluster}
use Rattle.ge_model_rows.specs.EventRows.{Event}
use Rattle.ge_model_core.specs.Render.{rendered}
use Rattle.ge_model_core.specs.Plan.{plan_of}
use Rattle.ge_model_core.specs.Trace.{answer_of, after_entries, output, WroteAll, WroteReplies, WroteFront}
use Rattle.ge_model_program.specs.Simulating.{is_stopped, WroteToEnd}
use Rattle.ge_top.specs.declared.answering.Answer.{Answer}
use Rattle.ge_top.specs.Answering.{bytes_of, IsAnswer}
use Rattle.ge_top.specs.Holding.{with_held, HasGained}
use Rattle.ge_top.proofs.Held.{Gains-nothing, one-more-held, front-of-whole}

-- the replies so far are written, and what the rest gives from the cluster that was reached is what is missing of the output
pub record HasAnswered (old now : Option (List ℕ)) (start : Cluster) (events : List Event) (reached : Cluster) (rest : List Event) : Type 0 where
  pub marks : List Bool
  pub replies : List ℕ
  pub gained : Gains old now replies
  pub goes_on : (more : List Bool) → output plan_of start events (marks ++ more) ≡ replies ++ output plan_of reached rest more
  pub stops : (more : List Bool) → is_stopped start events (marks ++ more) ≡ is_stopped reached rest more
  pub counted : length marks + length rest ≡ length events

pub HasAnswered-none : (old : Option (List ℕ)) (start : Cluster) (events : List Event) → HasAnswered old old start events start events
HasAnswered-none old start events = record { marks = []; replies = []; gained = Gains-nothing old; goes_on = λ more. refl; stops = λ more. refl; counted = omega arith }

-- the output from an event on, where the event doesn't stop the master
output-going : (c new : Cluster) (event : Event) (rest : List Event) (mark : Bool) (more : List Bool) (bytes : List ℕ)
    → bytes ≡ rendered (answer_of plan_of c event mark).reply → (answer_of plan_of c event mark).stop ≡ false → new ≡ after_entries c (answer_of plan_of c event mark).entry
    → output plan_of c (event ∷ rest) (mark ∷ more) ≡ bytes ++ output plan_of new rest more
output-going c new event rest mark more bytes reply going cluster = rw (reply, cluster, going) refl

-- the same, where it does
output-stopped : (c : Cluster) (event : Event) (rest : List Event) (mark : Bool) (more : List Bool) (bytes : List ℕ)
    → bytes ≡ rendered (answer_of plan_of c event mark).reply → (answer_of plan_of c event mark).stop ≡ true → output plan_of c (event ∷ rest) (mark ∷ more) ≡ bytes
output-stopped c event rest mark more bytes reply stopped = rw (reply, stopped) (append-nil (rendered (answer_of plan_of c event mark).reply))

unless_stopped-nil : (stop : Bool) → ◌≡◌ {A = List ℕ} (elim stop as (λ x. List ℕ) [ true ↦ [] | false ↦ [] ]) []
unless_stopped-nil true = refl
unless_stopped-nil false = refl

unless_stopped : (stop later : Bool) → stop ≡ false → (elim stop as (λ x. Bool) [ true ↦ true | false ↦ later ]) ≡ later
unless_stopped true later going = absurd (true≢false going)
unless_stopped false later going = refl

if_stopped : (stop later : Bool) → stop ≡ true → (elim stop as (λ x. Bool) [ true ↦ true | false ↦ later ]) ≡ true
if_stopped true later stopped = refl
if_stopped false later stopped = absurd (true≢false (sym stopped))

-- whether the trace from an event on stops
stopped-going : (c new : Cluster) (event : Event) (rest : List Event) (mark : Bool) (more : List Bool)
    → (answer_of plan_of c event mark).stop ≡ false → new ≡ after_entries c (answer_of plan_of c event mark).entry
    → is_stopped c (event ∷ rest) (mark ∷ more) ≡ is_stopped new rest more
stopped-going c new event rest mark more going cluster =
    unless_stopped (answer_of plan_of c event mark).stop (is_stopped (after_entries c (answer_of plan_of c event mark).entry) rest more) going
    ∙ ap (λ (d : Cluster). is_stopped d rest more) (sym cluster)

stopped-here : (c : Cluster) (event : Event) (rest : List Event) (mark : Bool) (more : List Bool)
    → (answer_of plan_of c event mark).stop ≡ true → is_stopped c (event ∷ rest) (mark ∷ more) ≡ true
stopped-here c event rest mark more stopped =
    if_stopped (answer_of plan_of c event mark).stop (is_stopped (after_entries c (answer_of plan_of c event mark).entry) rest more) stopped

-- the same, where no event after it is answered
output-last : (c : Cluster) (event : Event) (rest : List Event) (mark : Bool) (bytes : List ℕ)
    → bytes ≡ rendered (answer_of plan_of c event mark).reply → output plan_of c (event ∷ rest) (mark ∷ []) ≡ bytes
output-last c event rest mark bytes reply =
    rw (reply, unless_stopped-nil (answer_of plan_of c event mark).stop) (append-nil (rendered (answer_of plan_of c event mark).reply))

-- the output with one mark more
output-more : (old now : Option (List ℕ)) (start reached : Cluster) (events rest : List Event) (event : Event) (mark : Bool) (more : List Bool)
    (so_far : HasAnswered old now start events reached (event ∷ rest)) (bytes : List ℕ) → output plan_of reached (event ∷ rest) (mark ∷ more) ≡ bytes
    → output plan_of start events (so_far.marks ++ mark ∷ more) ≡ so_far.replies ++ bytes
output-more old now start reached events rest event mark more so_far bytes is = so_far.goes_on (mark ∷ more) ∙ ap (λ (tail : List ℕ). so_far.replies ++ tail) is

-- one event more
pub HasAnswered-more : (old now after : Option (List ℕ)) (start reached new : Cluster) (events rest : List Event) (event : Event) (answer : Answer)
    → HasAnswered old now start events reached (event ∷ rest) → IsAnswer reached event answer new → answer.stop ≡ false
    → Gains now after (bytes_of answer.reply) → HasAnswered old after start events new rest
HasAnswered-more old now after start reached new events rest event answer so_far is going gains = record {
  marks = so_far.marks ++ is.mark ∷ [];
  replies = so_far.replies ++ bytes_of answer.reply;
  gained = Gains-append old now after so_far.replies (bytes_of answer.reply) so_far.gained gains;
  goes_on = λ more. ap (output plan_of start events) (append_assoc so_far.marks (is.mark ∷ []) more)
      ∙ output-more old now start reached events rest event is.mark more so_far (bytes_of answer.reply ++ output plan_of new rest more)
      (output-going reached new event rest is.mark more (bytes_of answer.reply) is.reply (sym is.stop ∙ going) is.cluster)
      ∙ sym (append_assoc so_far.replies (bytes_of answer.reply) (output plan_of new rest more));
  stops = λ more. ap (is_stopped start events) (append_assoc so_far.marks (is.mark ∷ []) more)
      ∙ so_far.stops (is.mark ∷ more)
      ∙ stopped-going reached new event rest is.mark more (sym is.stop ∙ going) is.cluster;
  counted = omega (arith, length-append so_far.marks (is.mark ∷ []), so_far.counted);
}

output-marks : (old now : Option (List ℕ)) (start reached : Cluster) (events rest : List Event) (so_far : HasAnswered old now start events reached rest)
    → output plan_of start events so_far.marks ≡ so_far.replies
output-marks old now start reached events rest so_far =
    ap (output plan_of start events) (sym (append-nil so_far.marks)) ∙ so_far.goes_on [] ∙ append-nil so_far.replies

-- all events are answered, and nothing is left to read
pub HasAnswered-all : (old now : Option (List ℕ)) (start reached : Cluster) (events rest : List Event) (left : Option (List ℕ)) → HasAnswered old now start events reached rest
    → rest ≡ [] → IsReadToEnd left → WroteToEnd old now start events left
HasAnswered-all old now start reached events rest left so_far done ended =
    (so_far.marks, omega (arith, so_far.counted, ap length done), rw (output-marks old now start reached events rest so_far) so_far.gained, λ going. ended)

-- the last event stops the master
pub HasAnswered-stopped : (old now after : Option (List ℕ)) (start reached new : Cluster) (events rest : List Event) (event : Event) (answer : Answer) (left : Option (List ℕ))
    → HasAnswered old now start events reached (event ∷ rest) → IsAnswer reached event answer new → answer.stop ≡ true
    → Gains now after (bytes_of answer.reply) → WroteToEnd old after start events left
HasAnswered-stopped old now after start reached new events rest event answer left so_far is stopped gains =
    let more = replicate (length rest) false in
    let whole : output plan_of start events (so_far.marks ++ is.mark ∷ more) ≡ so_far.replies ++ bytes_of answer.reply =
    output-more old now start reached events rest event is.mark more so_far (bytes_of answer.reply)
    (output-stopped reached event rest is.mark more (bytes_of answer.reply) is.reply (sym is.stop ∙ stopped)) in
    let stops : is_stopped start events (so_far.marks ++ is.mark ∷ more) ≡ true =
    so_far.stops (is.mark ∷ more) ∙ stopped-here reached event rest is.mark more (sym is.stop ∙ stopped) in (
      so_far.marks ++ is.mark ∷ more,
      omega (arith, length-append so_far.marks (is.mark ∷ more), length-replicate (length rest) false, so_far.counted),
      rw whole (Gains-append old now after so_far.replies (bytes_of answer.reply) so_far.gained gains),
      λ going. absurd (true≢false (sym stops ∙ going)),
    )

-- that is the whole output of a trace
pub WroteToEnd-all : (old now : Option (List ℕ)) (start : Cluster) (events : List Event) (left : Option (List ℕ)) → WroteToEnd old now start events left
    → WroteAll plan_of old now start events
WroteToEnd-all old now start events left wrote = (wrote.0, wrote.1, wrote.2)

-- what is written ends at the end of a reply
pub HasAnswered-replies : (old now : Option (List ℕ)) (start reached : Cluster) (events rest : List Event) → HasAnswered old now start events reached rest
    → WroteReplies plan_of old now start events
HasAnswered-replies old now start reached events rest so_far =
    (so_far.marks, omega (arith, so_far.counted), rw (output-marks old now start reached events rest so_far) so_far.gained)

-- what is held is written up to some byte
pub HasAnswered-cut : (old now after : Option (List ℕ)) (start reached : Cluster) (events rest : List Event) (held : List ℕ)
    → HasAnswered old (with_held now held) start events reached rest → HasGained old now → GainsPrefix now after held → WroteFront plan_of old after start events
HasAnswered-cut old now after start reached events rest held so_far gained front = (
  so_far.marks,
  omega (arith, so_far.counted),
  rw (output-marks old (with_held now held) start reached events rest so_far) (front-of-whole old now after held so_far.replies gained so_far.gained front),
)

-- what is held and the next reply are written up to some byte
pub HasAnswered-front : (old now after : Option (List ℕ)) (start reached new : Cluster) (events rest : List Event) (event : Event) (answer : Answer) (held : List ℕ)
    → HasAnswered old (with_held now held) start events reached (event ∷ rest) → IsAnswer reached event answer new → HasGained old now
    → GainsPrefix now after (held ++ bytes_of answer.reply) → WroteFront plan_of old after start events
HasAnswered-front old now after start reached new events rest event answer held so_far is gained front =
    let bytes = bytes_of answer.reply in
    let whole : output plan_of start events (so_far.marks ++ is.mark ∷ []) ≡ so_far.replies ++ bytes =
    output-more old (with_held now held) start reached events rest event is.mark [] so_far bytes (output-last reached event rest is.mark bytes is.reply) in (
      so_far.marks ++ is.mark ∷ [],
      omega (arith, length-append so_far.marks (is.mark ∷ []), so_far.counted),
      rw whole (front-of-whole old now after (held ++ bytes) (so_far.replies ++ bytes) gained
          (Gains-append old (with_held now held) (with_held now (held ++ bytes)) so_far.replies bytes so_far.gained (one-more-held now held bytes)) front),
    )

-- a whole output is held in part, and what is held is written up to some byte
pub WroteToEnd-cut : (old now after : Option (List ℕ)) (start : Cluster) (events : List Event) (left : Option (List ℕ)) (held : List ℕ)
    → WroteToEnd old (with_held now held) start events left → HasGained old now → GainsPrefix now after held → WroteFront plan_of old after start events
WroteToEnd-cut old now after start events left held wrote gained front =
    (wrote.0, omega (arith, wrote.1), front-of-whole old now after held (output plan_of start events wrote.0) gained wrote.2 front)

-- whole replies are a front
pub WroteFront-from_replies : (old now : Option (List ℕ)) (start : Cluster) (events : List Event) → WroteReplies plan_of old now start events → WroteFront plan_of old now start events
WroteFront-from_replies old now start events wrote =
    let bytes = output plan_of start events wrote.0 in
    (wrote.0, wrote.1, (length bytes, omega arith, rw (take-length bytes) wrote.2))
