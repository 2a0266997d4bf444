-- How far the answers to a script have come that is read in pieces, where its source tells what it holds.
use Rattle.std.proofs.Common.{◌≡◌, ℕ, ◌+◌, ◌<◌, ◌≤◌, true, false, List, ◌++◌, length, Option, Some, None, Err, IsErrOf, sym, subst, arith}
use Rattle.std.specs.Prelude.{IfSome, option_map}
use Rattle.ge_outside.specs.Streams.{Gains, GainsPrefix}
use Rattle.ge_model_rows.specs.ClusterRows.{Cluster, opening_cluster}
use Rattle.ge_model_rows.specs.EventRows.{Event}
use Rattle.ge_model_grammar.specs.Events.{events_of}
use Rattle.ge_model_grammar.specs.Sources.{IsReadToEnd}
use Rattle.ge_model_core.specs.Plan.{plan_of}
use Rattle.ge_model_core.specs.Trace.{WroteAll, WroteReplies, WroteFront}
use Rattle.ge_model_program.specs.Simulating.{WroteToEnd, IfRead}
use Rattle.ge_script.specs.Pieces.{total_of, GivesNext}
use Rattle.ge_top.specs.declared.answering.Answer.{Answer}
use Rattle.ge_top.specs.Answering.{bytes_of, IsAnswer}
use Rattle.ge_top.specs.declared.answering.AnswerFault.{AnswerFault}
use Rattle.ge_top.specs.declared.answering.AnswerFault.TheVariants.{Read, Long, Write, Memory}
use Rattle.ge_top.specs.Holding.{with_held, HasGained, KeepsHeld}
use Rattle.ge_top.proofs.Told.{no_some, same_some, same_err}
use Rattle.ge_top.proofs.Traces.{HasAnswered, HasAnswered-none, HasAnswered-more, HasAnswered-all, HasAnswered-stopped, HasAnswered-replies, HasAnswered-cut, HasAnswered-front, WroteToEnd-all, WroteToEnd-cut, WroteFront-from_replies}

-- the events of the script that were read are answered, and these are to come
abbrev SoFarOf : Option (List ℕ) → Option (List Event) → Option (List ℕ) → Option (List ℕ) → Cluster → Type 0
SoFarOf None None old now reached = Unit {0}
SoFarOf (Some script) (Some coming) old now reached = HasAnswered old now opening_cluster (events_of script) reached coming
SoFarOf None (Some coming) old now reached = ⊥
SoFarOf (Some script) None old now reached = ⊥

pub record SoFar (script : Option (List ℕ)) (coming : Option (List Event)) (old now : Option (List ℕ)) (reached : Cluster) : Type 0 where
  pub told : SoFarOf script coming old now reached

pub so-far-none : (script : Option (List ℕ)) (coming : Option (List Event)) (old : Option (List ℕ)) (reached : Cluster) → coming ≡ option_map events_of script → reached ≡ opening_cluster
    → SoFar script coming old old reached
so-far-none None None old reached is first = record { told = tt }
so-far-none None (Some coming) old reached is first = absurd (no_some coming (sym is))
so-far-none (Some script) None old reached is first = absurd (no_some (events_of script) is)
so-far-none (Some script) (Some coming) old reached is first =
    let same : events_of script ≡ coming = sym (same_some coming (events_of script) is) in
    record {
      told = subst (λ c. HasAnswered old old opening_cluster (events_of script) c coming) (sym first)
          (subst (λ z. HasAnswered old old opening_cluster (events_of script) opening_cluster z) same (HasAnswered-none old opening_cluster (events_of script)));
    }

pub so-far-more : (script : Option (List ℕ)) (coming next : Option (List Event)) (old now after : Option (List ℕ)) (reached new : Cluster) (event : Event) (answer : Answer)
    → SoFar script coming old now reached → GivesNext coming next (Some event) → IsAnswer reached event answer new → answer.stop ≡ false
    → Gains now after (bytes_of answer.reply) → SoFar script next old after new
so-far-more None None None old now after reached new event answer so_far gives is going gains = record { told = tt }
so-far-more None None (Some next) old now after reached new event answer so_far gives is going gains = absurd gives
so-far-more None (Some coming) next old now after reached new event answer so_far gives is going gains = absurd so_far.told
so-far-more (Some script) None next old now after reached new event answer so_far gives is going gains = absurd so_far.told
so-far-more (Some script) (Some coming) None old now after reached new event answer so_far gives is going gains = absurd gives
so-far-more (Some script) (Some coming) (Some next) old now after reached new event answer so_far gives is going gains =
    record {
      told = HasAnswered-more old now after opening_cluster reached new (events_of script) next event answer
          (subst (λ z. HasAnswered old now opening_cluster (events_of script) reached z) gives so_far.told) is going gains;
    }

pub so-far-replies : (script : Option (List ℕ)) (coming : Option (List Event)) (old now : Option (List ℕ)) (reached : Cluster) → SoFar script coming old now reached
    → IfSome script (λ bytes. WroteReplies plan_of old now opening_cluster (events_of bytes))
so-far-replies None coming old now reached so_far = tt
so-far-replies (Some script) None old now reached so_far = absurd so_far.told
so-far-replies (Some script) (Some coming) old now reached so_far = HasAnswered-replies old now opening_cluster reached (events_of script) coming so_far.told

pub so-far-front : (script : Option (List ℕ)) (coming : Option (List Event)) (old now : Option (List ℕ)) (reached : Cluster) → SoFar script coming old now reached
    → IfSome script (λ bytes. WroteFront plan_of old now opening_cluster (events_of bytes))
so-far-front None coming old now reached so_far = tt
so-far-front (Some script) None old now reached so_far = absurd so_far.told
so-far-front (Some script) (Some coming) old now reached so_far =
    WroteFront-from_replies old now opening_cluster (events_of script) (HasAnswered-replies old now opening_cluster reached (events_of script) coming so_far.told)

-- the same bytes, told in another way
pub so-far-kept : (script : Option (List ℕ)) (coming : Option (List Event)) (old now after : Option (List ℕ)) (reached : Cluster) → after ≡ now
    → SoFar script coming old now reached → SoFar script coming old after reached
so-far-kept script coming old now after reached is so_far = subst (λ z. SoFar script coming old z reached) (sym is) so_far

pub so-far-ended-kept : (script : Option (List ℕ)) (old now after left : Option (List ℕ)) → after ≡ now
    → IfSome script (λ bytes. WroteToEnd old now opening_cluster (events_of bytes) left) → IfSome script (λ bytes. WroteToEnd old after opening_cluster (events_of bytes) left)
so-far-ended-kept script old now after left is wrote = subst (λ z. IfSome script (λ bytes. WroteToEnd old z opening_cluster (events_of bytes) left)) (sym is) wrote

-- a write of what is held was cut short
pub so-far-cut : (script : Option (List ℕ)) (coming : Option (List Event)) (old now after : Option (List ℕ)) (reached : Cluster) (held : List ℕ)
    → SoFar script coming old (with_held now held) reached → HasGained old now → GainsPrefix now after held
    → IfSome script (λ bytes. WroteFront plan_of old after opening_cluster (events_of bytes))
so-far-cut None coming old now after reached held so_far gained front = tt
so-far-cut (Some script) None old now after reached held so_far gained front = absurd so_far.told
so-far-cut (Some script) (Some coming) old now after reached held so_far gained front =
    HasAnswered-cut old now after opening_cluster reached (events_of script) coming held so_far.told gained front

-- the next event wasn't found
pub so-far-fault : (fault : AnswerFault) (script : Option (List ℕ)) (coming : Option (List Event)) (old now after : Option (List ℕ)) (reached : Cluster) (before held : List ℕ)
    → SoFar script coming old (with_held now before) reached → HasGained old now → KeepsHeld (Err fault) now after before held
    → IfSome script (λ bytes. WroteFront plan_of old after opening_cluster (events_of bytes))
so-far-fault Write script coming old now after reached before held so_far gained keeps = so-far-cut script coming old now after reached before so_far gained keeps
so-far-fault Read script coming old now after reached before held so_far gained keeps =
    so-far-front script coming old after reached (so-far-kept script coming old (with_held now before) after reached keeps so_far)
so-far-fault Long script coming old now after reached before held so_far gained keeps =
    so-far-front script coming old after reached (so-far-kept script coming old (with_held now before) after reached keeps so_far)
so-far-fault Memory script coming old now after reached before held so_far gained keeps =
    so-far-front script coming old after reached (so-far-kept script coming old (with_held now before) after reached keeps so_far)

pub fault-keeps : (fault known : AnswerFault) (old now : Option (List ℕ)) (before held : List ℕ) → IsErrOf {T = Unit {0}} {E = AnswerFault} (Err fault) known
    → KeepsHeld (Err fault) old now before held → KeepsHeld (Err known) old now before held
fault-keeps fault known old now before held is keeps = subst (λ f. KeepsHeld (Err f) old now before held) (same_err fault known is) keeps

-- a write of what is held and of the next reply was cut short
pub so-far-cut-behind : (script : Option (List ℕ)) (coming next : Option (List Event)) (old now after : Option (List ℕ)) (reached new : Cluster) (event : Event) (answer : Answer) (held : List ℕ)
    → SoFar script coming old (with_held now held) reached → GivesNext coming next (Some event) → IsAnswer reached event answer new → HasGained old now
    → GainsPrefix now after (held ++ bytes_of answer.reply) → IfSome script (λ bytes. WroteFront plan_of old after opening_cluster (events_of bytes))
so-far-cut-behind None coming next old now after reached new event answer held so_far gives is gained front = tt
so-far-cut-behind (Some script) None next old now after reached new event answer held so_far gives is gained front = absurd so_far.told
so-far-cut-behind (Some script) (Some coming) None old now after reached new event answer held so_far gives is gained front = absurd gives
so-far-cut-behind (Some script) (Some coming) (Some next) old now after reached new event answer held so_far gives is gained front =
    HasAnswered-front old now after opening_cluster reached new (events_of script) next event answer held
    (subst (λ z. HasAnswered old (with_held now held) opening_cluster (events_of script) reached z) gives so_far.told) is gained front

-- the next event stops the master
pub so-far-stopped : (script : Option (List ℕ)) (coming next : Option (List Event)) (old now after left : Option (List ℕ)) (reached new : Cluster) (event : Event) (answer : Answer)
    → SoFar script coming old now reached → GivesNext coming next (Some event) → IsAnswer reached event answer new → answer.stop ≡ true
    → Gains now after (bytes_of answer.reply) → IfSome script (λ bytes. WroteToEnd old after opening_cluster (events_of bytes) left)
so-far-stopped None coming next old now after left reached new event answer so_far gives is stopped gains = tt
so-far-stopped (Some script) None next old now after left reached new event answer so_far gives is stopped gains = absurd so_far.told
so-far-stopped (Some script) (Some coming) None old now after left reached new event answer so_far gives is stopped gains = absurd gives
so-far-stopped (Some script) (Some coming) (Some next) old now after left reached new event answer so_far gives is stopped gains =
    HasAnswered-stopped old now after opening_cluster reached new (events_of script) next event answer left (subst (λ z. HasAnswered old now opening_cluster (events_of script) reached z) gives so_far.told) is stopped gains

-- no event is to come
pub so-far-all : (script : Option (List ℕ)) (coming next : Option (List Event)) (old now left : Option (List ℕ)) (reached : Cluster)
    → SoFar script coming old now reached → GivesNext coming next None → IsReadToEnd left → IfSome script (λ bytes. WroteToEnd old now opening_cluster (events_of bytes) left)
so-far-all None coming next old now left reached so_far gives ended = tt
so-far-all (Some script) None next old now left reached so_far gives ended = absurd so_far.told
so-far-all (Some script) (Some coming) None old now left reached so_far gives ended = absurd gives
so-far-all (Some script) (Some coming) (Some next) old now left reached so_far gives ended =
    HasAnswered-all old now opening_cluster reached (events_of script) coming left so_far.told gives.0 ended

-- how many bytes were read, by the count that a script keeps
pub read-long : (script rest : Option (List ℕ)) (count limit : ℕ) → total_of count rest ≡ option_map length script → limit ≤ count → IfRead script rest (λ n. limit ≤ n)
read-long None None count limit is long = tt
read-long None (Some rest) count limit is long = absurd (no_some (count + length rest) (sym is))
read-long (Some script) None count limit is long = absurd (no_some (length script) is)
read-long (Some script) (Some rest) count limit is long =
    let same : count + length rest ≡ length script = same_some (count + length rest) (length script) is in omega (arith, same, long)

pub read-below : (script rest : Option (List ℕ)) (count limit : ℕ) → total_of count rest ≡ option_map length script → count < limit → IfRead script rest (λ n. n < limit)
read-below None None count limit is below = tt
read-below None (Some rest) count limit is below = absurd (no_some (count + length rest) (sym is))
read-below (Some script) None count limit is below = absurd (no_some (length script) is)
read-below (Some script) (Some rest) count limit is below =
    let same : count + length rest ≡ length script = same_some (count + length rest) (length script) is in omega (arith, same, below)

-- the whole output of a trace was written
pub so-far-whole : (script : Option (List ℕ)) (old now left : Option (List ℕ)) → IfSome script (λ bytes. WroteToEnd old now opening_cluster (events_of bytes) left)
    → IfSome script (λ bytes. WroteAll plan_of old now opening_cluster (events_of bytes))
so-far-whole None old now left wrote = tt
so-far-whole (Some script) old now left wrote = WroteToEnd-all old now opening_cluster (events_of script) left wrote

pub so-far-done : (script : Option (List ℕ)) (old now left : Option (List ℕ)) → IfSome script (λ bytes. WroteToEnd old now opening_cluster (events_of bytes) left)
    → IfSome script (λ bytes. WroteReplies plan_of old now opening_cluster (events_of bytes))
so-far-done None old now left wrote = tt
so-far-done (Some script) old now left wrote = (wrote.0, omega (arith, wrote.1), wrote.2)

pub so-far-done-front : (script : Option (List ℕ)) (old now left : Option (List ℕ)) → IfSome script (λ bytes. WroteToEnd old now opening_cluster (events_of bytes) left)
    → IfSome script (λ bytes. WroteFront plan_of old now opening_cluster (events_of bytes))
so-far-done-front None old now left wrote = tt
so-far-done-front (Some script) old now left wrote = WroteFront-from_replies old now opening_cluster (events_of script) (wrote.0, omega (arith, wrote.1), wrote.2)

-- a write of what is held behind the last reply was cut short
pub so-far-done-cut : (script : Option (List ℕ)) (old now after left : Option (List ℕ)) (held : List ℕ)
    → IfSome script (λ bytes. WroteToEnd old (with_held now held) opening_cluster (events_of bytes) left) → HasGained old now → GainsPrefix now after held
    → IfSome script (λ bytes. WroteFront plan_of old after opening_cluster (events_of bytes))
so-far-done-cut None old now after left held wrote gained front = tt
so-far-done-cut (Some script) old now after left held wrote gained front = WroteToEnd-cut old now after opening_cluster (events_of script) left held wrote gained front
