-- What the events of a batch give before anything is written.
use Rattle.std.specs.Prelude.{◌≡◌, ℕ, Bool, List, [], ◌∷◌, ◌++◌, length, flat_map, Option, IsTrue}
use Rattle.std.specs.List.{list_all}
use Rattle.std.specs.Option.{option_to_list}
use Rattle.ge_model_rows.specs.ClusterRows.{Cluster}
use Rattle.ge_model_rows.specs.EntryRows.{Entry}
use Rattle.ge_model_rows.specs.EventRows.{Event, Reply, Planned}
use Rattle.ge_model_core.specs.Trace.{answer_of, after_entries}
use Rattle.ge_model_program.specs.StandsFor.{entry_bytes, entry_fits}
use Rattle.ge_model_program.specs.Traced.{traced}
use Rattle.ge_master.specs.declared.staging.Staged.{Staged}

-- each entry is one that its bytes can hold
abbrev pub AreFit : List Entry → Type 0
AreFit entries = IsTrue (list_all entry_fits entries)

-- a plan put behind what other events gave: its reply, the bytes of its entry, and what is left to be done
pub record IsPrepared (p : Planned) (replies new_replies : List Reply) (body new_body : List ℕ) (change : Option Entry × Bool) : Type 0 where
  pub reply : new_replies ≡ replies ++ p.reply ∷ []
  pub bytes : new_body ≡ body ++ flat_map entry_bytes (option_to_list p.entry)
  pub fits : AreFit (option_to_list p.entry)
  pub entry : change.0 ≡ p.entry
  pub stop : change.1 ≡ p.stop

module _ (plan : Cluster → Event → Planned) where
  -- the answer to one event with some mark, put behind what other events gave
  pub record Stages (old : Cluster) (event : Event) (replies new_replies : List Reply) (body new_body : List ℕ) (new : Cluster) (stops : Bool) : Type 0 where
    pub mark : Bool
    pub reply : new_replies ≡ replies ++ (answer_of plan old event mark).reply ∷ []
    pub bytes : new_body ≡ body ++ flat_map entry_bytes (option_to_list (answer_of plan old event mark).entry)
    pub fits : AreFit (option_to_list (answer_of plan old event mark).entry)
    pub stop : stops ≡ (answer_of plan old event mark).stop
    pub cluster : new ≡ after_entries old (answer_of plan old event mark).entry

  -- what the events of a batch give with some marks
  pub record IsStaged (old : Cluster) (events : List Event) (staged : Staged) (new : Cluster) : Type 0 where
    pub marks : List Bool
    pub counted : length marks ≡ length events
    pub replies : staged.replies ≡ (traced plan old events marks).replies
    pub stop : staged.stop ≡ (traced plan old events marks).stopped
    pub cluster : new ≡ (traced plan old events marks).cluster
    pub bytes : staged.body ≡ flat_map entry_bytes (traced plan old events marks).entries
    pub fits : AreFit (traced plan old events marks).entries
