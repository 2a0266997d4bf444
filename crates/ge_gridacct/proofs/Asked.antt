-- What is written of the log's lines is what was asked for.
use Rattle.std.proofs.Common.{◌≡◌, ℕ, List, Option, Some, None, ap, ◌∙◌, sym, subst}
use Rattle.ge_model_rows.specs.ClusterRows.{Cluster}
use Rattle.ge_model_rows.specs.CommandRows.{Query}
use Rattle.ge_model_report.specs.Accounting.{account_of}
use Rattle.ge_gridacct.specs.Looks.{Looks, look_text, shown, fed}
use Rattle.ge_gridacct.specs.Sights.{Sight}
use Rattle.ge_gridacct.specs.declared.words.Look.{Look}
use Rattle.ge_gridacct.specs.declared.words.Look.TheVariants.{Lines, Total, Owner}
use Rattle.ge_gridacct.specs.declared.words.Word.{Word}
use Rattle.ge_gridacct.specs.declared.words.Word.TheVariants as word
use Rattle.ge_gridacct.proofs.Accounts.{account_total, account_owner}

-- the words ask for one thing alone
asked : (said : Option Word) (what other : Look) → said ≡ Some (word.Look what) → said ≡ Some (word.Look other) → what ≡ other
asked said what other first second = ap look_of (sym first ∙ second)
  where
    look_of : Option Word → Look
    look_of None = what
    look_of (Some word.Flush) = what
    look_of (Some (word.Look it)) = it

module _ (said : Option Word) (what : Look) (is : said ≡ Some (word.Look what)) (status : ℕ) (name : List ℕ) (x y : Sight) (looks : Looks status (look_text what name) x y) where
  pub asked_lines : said ≡ Some (word.Look Lines) → Looks status shown x y
  asked_lines other = subst (λ w. Looks status (look_text w name) x y) (asked said what Lines is other) looks

  pub asked_total : said ≡ Some (word.Look Total) → (c : Cluster) → Looks status (λ lines. fed (account_of (record c { lines = lines }) Query.Total)) x y
  asked_total other c =
      subst (λ f. Looks status f x y) (λ i. λ lines. account_total c lines i) (subst (λ w. Looks status (look_text w name) x y) (asked said what Total is other) looks)

  pub asked_owner : said ≡ Some (word.Look Owner) → (c : Cluster) → Looks status (λ lines. fed (account_of (record c { lines = lines }) (Query.Owner name))) x y
  asked_owner other c =
      subst (λ f. Looks status f x y) (λ i. λ lines. account_owner c name lines i) (subst (λ w. Looks status (look_text w name) x y) (asked said what Owner is other) looks)
