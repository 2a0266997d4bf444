-- Worked rows of values, operators and complexes, each by computation.
use Rattle.std.specs.Prelude.{◌≡◌, ◌^◌, ◌-◌, [], ◌∷◌, ◌++◌, map, Some, None, true, false, replicate, codes, refl}
use Rattle.std.specs.Fmt.{digits}
use Rattle.std.specs.Map.{keys_of}
use Rattle.std.specs.Option.{option_map}
use Rattle.ge_model_rows.specs.ClusterRows.{opening_cluster}
use Rattle.ge_model_rows.specs.ValueRows.{Amount, Flag, Word, Kind, Eq, Ne, Lt, Le, Gt, Ge}
use Rattle.ge_model_rows.specs.ValueRows.{Requestable, Consumable}
use Rattle.ge_model_rows.specs.Values.{value_of, value_text, amount_in}
use Rattle.ge_model_rows.specs.Relops.{holds_between, admits}
use Rattle.ge_model_rows.specs.Complexes.{opening, opening_complexes, complex_at, complex_named, is_consumable}

-- values of texts

ints : map (value_of Kind.Int) (codes "0007" ∷ codes "281474976710655" ∷ codes "281474976710656" ∷ codes "1.5" ∷ [] ∷ [])
    ≡ Some (Amount 7) ∷ Some (Amount (2 ^ 48 - 1)) ∷ None ∷ None ∷ None ∷ []
ints = refl

times : map (value_of Kind.Time) (codes "1::1" ∷ codes "0:05:00" ∷ codes "90" ∷ codes "INFINITY" ∷ codes "1:1" ∷ [])
    ≡ Some (Amount 3601) ∷ Some (Amount 300) ∷ Some (Amount 90) ∷ Some (Amount (2 ^ 48 - 1)) ∷ None ∷ []
times = refl

sizes : map (value_of Kind.Memory) (codes "1.5G" ∷ codes "2k" ∷ codes "1.5" ∷ codes "INFINITY" ∷ codes "1T" ∷ [])
    ≡ Some (Amount 1610612736) ∷ Some (Amount 2000) ∷ Some (Amount 1) ∷ Some (Amount (2 ^ 48 - 1)) ∷ None ∷ []
sizes = refl

fractions : map (value_of Kind.Double) (codes "1.75" ∷ codes "3" ∷ codes "0.1234567" ∷ codes "INFINITY" ∷ [])
    ≡ Some (Amount 1750000) ∷ Some (Amount 3000000) ∷ None ∷ None ∷ []
fractions = refl

flags : map (value_of Kind.Bool) (codes "tRuE" ∷ codes "1" ∷ codes "False" ∷ codes "0" ∷ codes "01" ∷ codes "yes" ∷ codes "NONE" ∷ [])
    ≡ Some (Flag true) ∷ Some (Flag true) ∷ Some (Flag false) ∷ Some (Flag false) ∷ None ∷ None ∷ None ∷ []
flags = refl

words : map (value_of Kind.Str) (codes "lx24-amd64" ∷ codes "NONE" ∷ codes "none" ∷ codes "[a" ∷ codes "~!" ∷ [])
    ≡ Some (Word (codes "lx24-amd64")) ∷ Some (Word []) ∷ Some (Word (codes "none")) ∷ Some (Word (codes "[a")) ∷ Some (Word (codes "~!")) ∷ []
words = refl

no_words : map (value_of Kind.ReStr) ([] ∷ codes "a,b" ∷ codes "a=b" ∷ codes "a]" ∷ codes "a b" ∷ (127 ∷ []) ∷ []) ≡ None ∷ None ∷ None ∷ None ∷ None ∷ None ∷ []
no_words = refl

longest_word : value_of Kind.Host (replicate 255 120) ≡ Some (Word (replicate 255 120))
longest_word = refl

longer_word : value_of Kind.CStr (replicate 256 120) ≡ None
longer_word = refl

-- texts of values

printed_times : map (value_text Kind.Time) (Amount 3661 ∷ Amount 359999 ∷ Amount 0 ∷ Amount (2 ^ 48 - 1) ∷ Word (codes "x") ∷ [])
    ≡ codes "1:1:1" ∷ codes "99:59:59" ∷ codes "0:0:0" ∷ codes "INFINITY" ∷ codes "x" ∷ []
unfolding digits
printed_times = refl

printed_sizes : map (value_text Kind.Memory) (Amount 1536 ∷ Amount (2 ^ 48 - 1) ∷ Flag true ∷ []) ≡ codes "1536" ∷ codes "INFINITY" ∷ codes "TRUE" ∷ []
unfolding digits
printed_sizes = refl

printed_fractions : map (value_text Kind.Double) (Amount 1750000 ∷ Amount 1 ∷ Amount (2 ^ 48 - 1) ∷ []) ≡ codes "1.750000" ∷ codes "0.000001" ∷ codes "281474976.710655" ∷ []
unfolding digits
printed_fractions = refl

printed_by_form : map (value_text Kind.Bool) (Flag false ∷ Amount (2 ^ 48 - 1) ∷ Word [] ∷ []) ≡ codes "FALSE" ∷ codes "281474976710655" ∷ codes "NONE" ∷ []
unfolding digits
printed_by_form = refl

printed_words : map (value_text Kind.Host) (Word (codes "n1") ∷ Word [] ∷ Amount 7 ∷ []) ≡ codes "n1" ∷ codes "NONE" ∷ codes "7" ∷ []
unfolding digits
printed_words = refl

no_amount_counts_nothing : map amount_in (Amount 5 ∷ Flag true ∷ Word (codes "5") ∷ []) ≡ 5 ∷ 0 ∷ 0 ∷ []
no_amount_counts_nothing = refl

-- operators

numbers_compare : map (λ relop. holds_between Kind.Memory relop (Amount 4) (Amount 5)) (Eq ∷ Ne ∷ Lt ∷ Le ∷ Gt ∷ Ge ∷ []) ≡ false ∷ true ∷ true ∷ true ∷ false ∷ false ∷ []
numbers_compare = refl

equal_numbers_compare : map (λ relop. holds_between Kind.Int relop (Amount 4) (Amount 4)) (Eq ∷ Ne ∷ Lt ∷ Le ∷ Gt ∷ Ge ∷ []) ≡ true ∷ false ∷ false ∷ true ∷ false ∷ true ∷ []
equal_numbers_compare = refl

flags_are_the_same_or_not : map (λ relop. holds_between Kind.Bool relop (Flag false) (Flag true)) (Eq ∷ Ne ∷ Lt ∷ Le ∷ Gt ∷ Ge ∷ []) ≡ false ∷ true ∷ false ∷ false ∷ false ∷ false ∷ []
flags_are_the_same_or_not = refl

case_counts_by_kind : map (λ kind. holds_between kind Eq (Word (codes "Node")) (Word (codes "nODE"))) (Kind.Str ∷ Kind.CStr ∷ Kind.ReStr ∷ Kind.Host ∷ Kind.Int ∷ [])
    ≡ false ∷ true ∷ false ∷ true ∷ false ∷ []
case_counts_by_kind = refl

left_one_is_the_pattern : holds_between Kind.ReStr Eq (Word (codes "lx*-amd64")) (Word (codes "lx24-amd64")) ≡ true
left_one_is_the_pattern = refl

right_one_is_none : holds_between Kind.ReStr Eq (Word (codes "lx24-amd64")) (Word (codes "lx*-amd64")) ≡ false
right_one_is_none = refl

pattern_misses : holds_between Kind.ReStr Ne (Word (codes "sol*")) (Word (codes "lx24-amd64")) ≡ true
pattern_misses = refl

star_is_a_byte_elsewhere : holds_between Kind.Str Eq (Word (codes "a*")) (Word (codes "ab")) ≡ false
star_is_a_byte_elsewhere = refl

other_forms_compare_by_form : holds_between Kind.ReStr Lt (Amount 5) (Amount 6) ≡ true
other_forms_compare_by_form = refl

forms_differ : map (λ relop. holds_between Kind.Int relop (Amount 1) (Flag true)) (Eq ∷ Ne ∷ Le ∷ []) ≡ false ∷ false ∷ false ∷ []
forms_differ = refl

-- complexes

opening_names : keys_of opening_complexes
    ≡ codes "arch" ∷ codes "h_core" ∷ codes "h_cpu" ∷ codes "h_data" ∷ codes "h_fsize" ∷ codes "h_rss" ∷ codes "h_rt" ∷ codes "h_stack" ∷ codes "h_vmem"
    ∷ codes "hostname" ∷ codes "load_avg" ∷ codes "mem_free" ∷ codes "mem_total" ∷ codes "np_load_avg" ∷ codes "num_proc" ∷ codes "qname"
    ∷ codes "s_core" ∷ codes "s_cpu" ∷ codes "s_data" ∷ codes "s_fsize" ∷ codes "s_rss" ∷ codes "s_rt" ∷ codes "s_stack" ∷ codes "s_vmem"
    ∷ codes "slots" ∷ codes "virtual_free" ∷ []
unfolding opening_complexes
opening_names = refl

slots_row : complex_at opening (codes "slots") ≡ Some (record {
  shortcut = codes "s";
  kind = Kind.Int;
  relop = Le;
  requestable = Requestable.Yes;
  consumable = Consumable.Yes;
  fallback = Amount 1;
  urgency = 1000000000;
})
unfolding opening
slots_row = refl

limit_row : complex_at opening (codes "h_rt") ≡ Some (record {
  shortcut = codes "h_rt";
  kind = Kind.Time;
  relop = Le;
  requestable = Requestable.Yes;
  consumable = Consumable.No;
  fallback = Amount 0;
  urgency = 0;
})
unfolding opening
limit_row = refl

load_row : complex_at opening (codes "np_load_avg") ≡ Some (record {
  shortcut = codes "nla";
  kind = Kind.Double;
  relop = Ge;
  requestable = Requestable.No;
  consumable = Consumable.No;
  fallback = Amount 0;
  urgency = 0;
})
unfolding opening
load_row = refl

host_row : complex_at opening (codes "hostname") ≡ Some (record {
  shortcut = codes "h";
  kind = Kind.Host;
  relop = Eq;
  requestable = Requestable.Yes;
  consumable = Consumable.No;
  fallback = Word [];
  urgency = 0;
})
unfolding opening
host_row = refl

by_name_or_shortcut : map (λ word. option_map (λ row. row.0) (complex_named opening word)) (codes "arch" ∷ codes "a" ∷ codes "nla" ∷ codes "x" ∷ [])
    ≡ Some (codes "arch") ∷ Some (codes "arch") ∷ Some (codes "np_load_avg") ∷ None ∷ []
unfolding opening
by_name_or_shortcut = refl

slots_alone_are_consumed : map (is_consumable opening) (codes "slots" ∷ codes "arch" ∷ codes "s" ∷ codes "nosuch" ∷ []) ≡ true ∷ false ∷ false ∷ false ∷ []
unfolding opening
slots_alone_are_consumed = refl

slots_without_a_row : is_consumable opening_cluster (codes "slots") ≡ true
unfolding opening_cluster
slots_without_a_row = refl

-- all else is as before the first command
opening_managers_and_queues : opening.managers ++ keys_of opening.queues ++ keys_of opening.hosts ≡ codes "root" ∷ codes "all.q" ∷ codes "global" ∷ codes "local" ∷ []
unfolding opening
opening_managers_and_queues = refl

-- a request for at most what is there
asked_slots : map (λ asked. option_map (λ row. admits row (Amount asked) (Amount 4)) (complex_at opening (codes "slots"))) (3 ∷ 4 ∷ 5 ∷ []) ≡ Some true ∷ Some true ∷ Some false ∷ []
unfolding opening
asked_slots = refl
