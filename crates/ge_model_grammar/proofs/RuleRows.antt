-- Worked rows of the rules of a rule set, each by computation.
use Rattle.std.specs.Prelude.{◌≡◌, refl, true, [], ◌∷◌, Some, None, codes}
use Rattle.ge_model_grammar.specs.Rules.{rule_line_of}

no_resources : rule_line_of (codes "to") ≡ None
unfolding rule_line_of
no_resources = refl

resource_missing : rule_line_of (codes "users a") ≡ None
unfolding rule_line_of
resource_missing = refl

resource_without_equals : rule_line_of (codes "to slots") ≡ None
unfolding rule_line_of
resource_without_equals = refl

no_list : rule_line_of (codes "to NONE") ≡ None
unfolding rule_line_of
no_list = refl

empty_resource : rule_line_of (codes "to slots=1,,mem=2G") ≡ None
unfolding rule_line_of
empty_resource = refl

resource_without_name : rule_line_of (codes "to =1")
    ≡ Some (record { name = []; users = None; projects = None; pes = None; queues = None; hosts = None; limits = ([], codes "1") ∷ [] })
unfolding rule_line_of
resource_without_name = refl

name_behind_a_filter : rule_line_of (codes "users a name n to a=1") ≡ None
unfolding rule_line_of
name_behind_a_filter = refl

name_of_to : rule_line_of (codes "name to to a=1")
    ≡ Some (record {
      name = codes "to";
      users = None;
      projects = None;
      pes = None;
      queues = None;
      hosts = None;
      limits = (codes "a", codes "1")
          ∷ [];
    })
unfolding rule_line_of
name_of_to = refl

filter_named_to : rule_line_of (codes "users to a=1") ≡ None
unfolding rule_line_of
filter_named_to = refl

filter_twice : rule_line_of (codes "users a users b to a=1") ≡ None
unfolding rule_line_of
filter_twice = refl

other_filter : rule_line_of (codes "sets a to a=1") ≡ None
unfolding rule_line_of
other_filter = refl

brace_in_front : rule_line_of (codes "users {a to a=1") ≡ None
unfolding rule_line_of
brace_in_front = refl

brace_behind : rule_line_of (codes "users a} to a=1") ≡ None
unfolding rule_line_of
brace_behind = refl

one_brace : rule_line_of (codes "users { to a=1") ≡ None
unfolding rule_line_of
one_brace = refl

empty_braces : rule_line_of (codes "users {} to a=1") ≡ None
unfolding rule_line_of
empty_braces = refl

mark_alone : rule_line_of (codes "users a,! to a=1") ≡ None
unfolding rule_line_of
mark_alone = refl

empty_element : rule_line_of (codes "users a,,b to a=1") ≡ None
unfolding rule_line_of
empty_element = refl

blank_in_a_filter : rule_line_of (codes "users a, b to a=1") ≡ None
unfolding rule_line_of
blank_in_a_filter = refl

mark_in_braces : rule_line_of (codes "users {!a,b,!c} to a=1,b=2")
    ≡ Some (record {
      name = [];
      users = Some (record { braces = true; plain = codes "b" ∷ []; without = codes "a" ∷ codes "c" ∷ [] });
      projects = None;
      pes = None;
      queues = None;
      hosts = None;
      limits = (codes "a", codes "1") ∷ (codes "b", codes "2") ∷ [];
    })
unfolding rule_line_of
mark_in_braces = refl
