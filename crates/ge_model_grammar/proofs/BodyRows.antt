-- Worked rows of bodies, each by computation.
use Rattle.std.specs.Prelude.{◌≡◌, refl, true, false, [], ◌∷◌, ◌++◌, Some, None, codes}
use Rattle.ge_model_rows.specs.EntryRows.{ObjectKind}
use Rattle.ge_model_grammar.specs.declared.Body.TheVariants.{Attributes, RuleSet, Nodes, ComplexRows}
use Rattle.ge_model_grammar.specs.Bodies.{body_of, grammar_of_bodies}

-- lines

joined_and_skipped : body_of ObjectKind.Queue (codes " qname" ++ (9 ∷ []) ++ codes " a  \n\n#c\nhost\\\nlist h1, \\\n  h2 \nslots   1,[h1=2],[@g=3]  ")
    ≡ Some (Attributes ((codes "qname", codes "a") ∷ (codes "hostlist", codes "h1,   h2") ∷ (codes "slots", codes "1,[h1=2],[@g=3]") ∷ []))
unfolding grammar_of_bodies
joined_and_skipped = refl

joined_comment : body_of ObjectKind.Queue (codes "qname a\n# note \\\nslots 5") ≡ Some (Attributes ((codes "qname", codes "a") ∷ []))
unfolding grammar_of_bodies
joined_comment = refl

last_backslash : body_of ObjectKind.Queue (codes "qname a\nslots 2\\") ≡ Some (Attributes ((codes "qname", codes "a") ∷ (codes "slots", codes "2\\") ∷ []))
unfolding grammar_of_bodies
last_backslash = refl

comment_behind_a_blank : body_of ObjectKind.Queue (codes "qname a\n # note") ≡ None
unfolding grammar_of_bodies
comment_behind_a_blank = refl

control_byte_in_a_comment : body_of ObjectKind.Queue (codes "# " ++ (1 ∷ []) ++ codes "\nqname a") ≡ None
unfolding grammar_of_bodies
control_byte_in_a_comment = refl

quotes_are_bytes : body_of ObjectKind.Queue (codes "qname a\nslots \"2\" '3")
    ≡ Some (Attributes ((codes "qname", codes "a") ∷ (codes "slots", codes "\"2\" '3") ∷ []))
unfolding grammar_of_bodies
quotes_are_bytes = refl

-- attributes

no_lines : body_of ObjectKind.Queue ([]) ≡ None
unfolding grammar_of_bodies
no_lines = refl

no_name : body_of ObjectKind.Queue (codes "slots 2") ≡ None
unfolding grammar_of_bodies
no_name = refl

attribute_without_value : body_of ObjectKind.Queue (codes "qname a\nslots") ≡ None
unfolding grammar_of_bodies
attribute_without_value = refl

attribute_twice : body_of ObjectKind.Queue (codes "qname a\nslots 1\nslots 2") ≡ None
unfolding grammar_of_bodies
attribute_twice = refl

unknown_attribute : body_of ObjectKind.Queue (codes "qname a\nfoo 2") ≡ None
unfolding grammar_of_bodies
unknown_attribute = refl

idle_and_none_attributes : body_of ObjectKind.Queue (codes "qname a\ncalendar x\nprocessors 4 5\nh_vmem 5")
    ≡ Some (Attributes ((codes "qname", codes "a") ∷ (codes "calendar", codes "x") ∷ (codes "processors", codes "4 5") ∷ (codes "h_vmem", codes "5")
    ∷ []))
unfolding grammar_of_bodies
idle_and_none_attributes = refl

idle_attribute_twice : body_of ObjectKind.Queue (codes "qname a\nprocessors 1\nprocessors 1") ≡ None
unfolding grammar_of_bodies
idle_attribute_twice = refl

attribute_of_another_kind : body_of ObjectKind.Pe (codes "pe_name a\ncalendar NONE") ≡ None
unfolding grammar_of_bodies
attribute_of_another_kind = refl

group_body : body_of ObjectKind.Group (codes "group_name @a\nhostlist NONE")
    ≡ Some (Attributes ((codes "group_name", codes "@a") ∷ (codes "hostlist", codes "NONE") ∷ []))
unfolding grammar_of_bodies
group_body = refl

host_body : body_of ObjectKind.Host (codes "hostname a\nload_scaling x\nprojects NONE")
    ≡ Some (Attributes ((codes "hostname", codes "a") ∷ (codes "load_scaling", codes "x") ∷ (codes "projects", codes "NONE") ∷ []))
unfolding grammar_of_bodies
host_body = refl

pe_body : body_of ObjectKind.Pe (codes "pe_name p\nstart_proc_args /bin/true -x\nslots 4")
    ≡ Some (Attributes ((codes "pe_name", codes "p") ∷ (codes "start_proc_args", codes "/bin/true -x") ∷ (codes "slots", codes "4") ∷ []))
unfolding grammar_of_bodies
pe_body = refl

set_body : body_of ObjectKind.Set (codes "name s\ntype ACL DEPT\nentries a,@b")
    ≡ Some (Attributes ((codes "name", codes "s") ∷ (codes "type", codes "ACL DEPT") ∷ (codes "entries", codes "a,@b") ∷ []))
unfolding grammar_of_bodies
set_body = refl

project_body : body_of ObjectKind.Project (codes "name p\nacl x") ≡ Some (Attributes ((codes "name", codes "p") ∷ (codes "acl", codes "x") ∷ []))
unfolding grammar_of_bodies
project_body = refl

user_body : body_of ObjectKind.User (codes "name u\ndefault_project x") ≡ Some (Attributes ((codes "name", codes "u") ∷ (codes "default_project", codes "x") ∷ []))
unfolding grammar_of_bodies
user_body = refl

settings_body : body_of ObjectKind.Sched (codes "algorithm default\nhalftime 3")
    ≡ Some (Attributes ((codes "algorithm", codes "default") ∷ (codes "halftime", codes "3") ∷ []))
unfolding grammar_of_bodies
settings_body = refl

settings_without_lines : body_of ObjectKind.Sched ([]) ≡ Some (Attributes [])
unfolding grammar_of_bodies
settings_without_lines = refl

-- complexes

complex_rows : body_of ObjectKind.Complexes (codes "  a" ++ (9 ∷ []) ++ codes "b INT <= YES YES 1 1000\n# x\nc d e f g h i j")
    ≡ Some (ComplexRows (record {
      name = codes "a";
      shortcut = codes "b";
      kind = codes "INT";
      relop = codes "<=";
      requestable = codes "YES";
      consumable = codes "YES";
      fallback = codes "1";
      urgency = codes "1000";
    } ∷ record {
      name = codes "c";
      shortcut = codes "d";
      kind = codes "e";
      relop = codes "f";
      requestable = codes "g";
      consumable = codes "h";
      fallback = codes "i";
      urgency = codes "j";
    } ∷ []))
unfolding grammar_of_bodies
complex_rows = refl

seven_words : body_of ObjectKind.Complexes (codes "a b INT <= YES YES 1") ≡ None
unfolding grammar_of_bodies
seven_words = refl

nine_words : body_of ObjectKind.Complexes (codes "a b INT <= YES YES 1 1 1") ≡ None
unfolding grammar_of_bodies
nine_words = refl

-- share trees

tree : body_of ObjectKind.Shares (codes " id=0 \nname= R x\n\n#c\ntype=\nsha\\\nres=1\nchildnodes=1," ++ (9 ∷ []))
    ≡ Some (Nodes (record { id = codes "0"; name = codes " R x"; sort = []; shares = codes "1"; children = codes "1," } ∷ []))
unfolding grammar_of_bodies
tree = refl

four_lines : body_of ObjectKind.Shares (codes "id=0\nname=Root\ntype=0\nshares=1") ≡ None
unfolding grammar_of_bodies
four_lines = refl

wrong_order : body_of ObjectKind.Shares (codes "id=0\ntype=0\nname=Root\nshares=1\nchildnodes=NONE") ≡ None
unfolding grammar_of_bodies
wrong_order = refl

blank_before_equals : body_of ObjectKind.Shares (codes "id =0\nname=Root\ntype=0\nshares=1\nchildnodes=NONE") ≡ None
unfolding grammar_of_bodies
blank_before_equals = refl

-- rule sets

rules : body_of ObjectKind.Quota (codes " { \n  name r\n  enabled TRUE\n  limit name n users {ann,!bob,@s} projects !* pes p to slots=1, mem=2G h=3\n  description some text\n  limit hosts {@g} queues a.q to a==,=1\n }")
    ≡ Some (RuleSet ((codes "name", codes "r") ∷ (codes "enabled", codes "TRUE") ∷ (codes "description", codes "some text")
    ∷ []) (record {
      name = codes "n";
      users = Some (record { braces = true; plain = codes "ann" ∷ codes "@s" ∷ []; without = codes "bob" ∷ [] });
      projects = Some (record { braces = false; plain = []; without = codes "*" ∷ [] });
      pes = Some (record {
        braces = false;
        plain = codes "p" ∷ [];
        without = [];
      });
      queues = None;
      hosts = None;
      limits = (codes "slots", codes "1") ∷ (codes "mem", codes "2G") ∷ (codes "h", codes "3") ∷ [];
    }
    ∷ record {
      name = [];
      users = None;
      projects = None;
      pes = None;
      queues = Some (record {
        braces = false;
        plain = codes "a.q" ∷ [];
        without = [];
      });
      hosts = Some (record { braces = true; plain = codes "@g" ∷ []; without = [] });
      limits = (codes "a", codes "=") ∷ ([], codes "1")
          ∷ [];
    } ∷ []))
unfolding grammar_of_bodies
rules = refl

no_rule : body_of ObjectKind.Quota (codes "{\nname r\n}") ≡ None
unfolding grammar_of_bodies
no_rule = refl

rule_set_without_name : body_of ObjectKind.Quota (codes "{\nlimit to slots=1\n}") ≡ None
unfolding grammar_of_bodies
rule_set_without_name = refl

line_behind : body_of ObjectKind.Quota (codes "{\nname r\nlimit to slots=1\n}\nname r") ≡ None
unfolding grammar_of_bodies
line_behind = refl

not_opened : body_of ObjectKind.Quota (codes "name r\nlimit to slots=1\n}") ≡ None
unfolding grammar_of_bodies
not_opened = refl

not_closed : body_of ObjectKind.Quota (codes "{\nname r\nlimit to slots=1") ≡ None
unfolding grammar_of_bodies
not_closed = refl

name_twice : body_of ObjectKind.Quota (codes "{\nname r\nname s\nlimit to slots=1\n}") ≡ None
unfolding grammar_of_bodies
name_twice = refl

other_line : body_of ObjectKind.Quota (codes "{\nname r\nfoo s\nlimit to slots=1\n}") ≡ None
unfolding grammar_of_bodies
other_line = refl

-- other kinds

managers : body_of ObjectKind.Managers (codes "root") ≡ None
unfolding grammar_of_bodies
managers = refl

operators : body_of ObjectKind.Operators [] ≡ None
unfolding grammar_of_bodies
operators = refl
