-- What -l, -q and -pe ask for.
use Rattle.std.specs.Prelude.{◌≡◌, ℕ, true, List, [], ◌∷◌, ◌++◌, Option, Some, None, Ok, Err, map, flat_map, decimal, codes, refl}
use Rattle.std.specs.Fmt.{digits}
use Rattle.std.specs.List.{range_with_len}
use Rattle.ge_base.specs.declared.refusal.Refusal.{Refusal}
use Rattle.ge_base.specs.declared.refusal.Refusal.TheVariants.{NoSuchObject, BadValue, NotRequestable, Limit}
use Rattle.ge_model_rows.specs.EntryRows.{ObjectKind}
use Rattle.ge_model_rows.specs.JobRows.{Request}
use Rattle.ge_model_rows.specs.ValueRows.{Amount, Flag, Word}
use Rattle.ge_model_rows.specs.Faults.{first_fault}
use Rattle.ge_model_config.specs.Requests.{request_of, request_read, request_changed}
use Rattle.ge_model_config.proofs.Site.{site, with_body}

-- a job that asks for nothing, and one that asks for some of each
abbrev nothing : Request
nothing = record { asked = []; queues = []; pe = None }

abbrev some : Request
some = record { asked = (codes "mem", Amount 1) ∷ []; queues = codes "all.q" ∷ []; pe = Some (record { name = codes "smp"; low = 2; high = 3 }) }

-- the refusal that answers the words of -l, and the one that answers a range of slots
unfoldable refusal_of : List (List ℕ) → Option Refusal
unfolding request_of
refusal_of words = first_fault (request_of site ((codes "-l", words) ∷ []) nothing).1

unfoldable range_refusal : List ℕ → List ℕ → Option Refusal
unfolding request_of
range_refusal pe range = first_fault (request_of site ((codes "-pe", pe ∷ range ∷ []) ∷ []) nothing).1

-- by name, by shortcut, alone, twice, in two words
asked_values : (request_of site ((codes "-l", codes "mem=2G,gpu,a=lx*" ∷ codes "h=NONE,h_rt=1::,mem=1K" ∷ []) ∷ []) nothing).0.asked
    ≡ (codes "arch", Word (codes "lx*")) ∷ (codes "gpu", Flag true) ∷ (codes "h_rt", Amount 3600) ∷ (codes "hostname", Word []) ∷ (codes "mem", Amount 1024) ∷ []
unfolding request_of site
asked_values = refl

-- a part that isn't given stays as it was
parts_in_place : (request_of site ((codes "-q", codes "a.q,*@n1" ∷ []) ∷ []) some).0 ≡ record some { queues = codes "a.q" ∷ codes "*@n1" ∷ [] }
unfolding request_of site
parts_in_place = refl

environment_in_place : (request_of site ((codes "-l", codes "gpu" ∷ []) ∷ (codes "-pe", codes "smp" ∷ codes "4-" ∷ []) ∷ []) some).0
    ≡ record { asked = (codes "gpu", Flag true) ∷ []; queues = codes "all.q" ∷ []; pe = Some (record { name = codes "smp"; low = 4; high = 1000000 }) }
unfolding request_of site
environment_in_place = refl

no_option : request_of site [] some ≡ (some, [])
unfolding request_of
no_option = refl

refusals_of_resources : map refusal_of (
    (codes "mem=2G,gpu=0" ∷ [])
    ∷ (codes "nosuch=1" ∷ [])
    ∷ (codes "nosuch=1,slots=2" ∷ [])
    ∷ (codes "slots=2" ∷ [])
    ∷ (codes "s=2" ∷ [])
    ∷ (codes "load_avg=1" ∷ [])
    ∷ (codes "la=x" ∷ [])
    ∷ (codes "mem=x,mem=2G" ∷ [])
    ∷ (codes "h_rt=" ∷ [])
    ∷ (codes "a=b=c" ∷ [])
    ∷ (codes "arch" ∷ [])
    ∷ (codes "mem" ∷ [])
    ∷ (codes "mem=1" ∷ codes "nla=1" ∷ [])
    ∷ [])
    ≡ None ∷ Some NoSuchObject ∷ Some NoSuchObject ∷ Some BadValue ∷ Some BadValue ∷ Some NotRequestable ∷ Some BadValue ∷ Some BadValue ∷ Some BadValue
    ∷ Some BadValue ∷ None ∷ Some BadValue ∷ Some NotRequestable ∷ []
unfolding refusal_of site
refusals_of_resources = refl

refusals_of_ranges : map (range_refusal (codes "smp")) (codes "3-8" ∷ codes "1" ∷ codes "0" ∷ codes "-0" ∷ codes "-8" ∷ codes "5-3" ∷ codes "2000000-" ∷ codes "1-1000000" ∷ codes "1-1000001" ∷ [])
    ≡ None ∷ None ∷ Some BadValue ∷ Some BadValue ∷ None ∷ Some BadValue ∷ Some BadValue ∷ None ∷ Some BadValue ∷ []
unfolding range_refusal site
refusals_of_ranges = refl

no_such_environment : range_refusal (codes "mpi") (codes "0") ≡ Some NoSuchObject
unfolding range_refusal site
no_such_environment = refl

-- rows for so many further complexes, r0 .., and the words that ask for all of them
unfoldable many_rows : ℕ → List ℕ
unfolding digits
many_rows n = flat_map (λ i. codes "r" ++ decimal i ++ codes " r" ++ decimal i ++ codes " INT <= YES NO 0 0\n") (range_with_len 10 n)

unfoldable many_asked : ℕ → List (List ℕ)
unfolding digits
many_asked n = map (λ i. codes "r" ++ decimal i ++ codes "=1") (range_with_len 10 n)

-- 64 different ones may be asked for, one of them twice
as_many_as_may_be : map (λ n. first_fault (request_of (with_body site (ObjectKind.Complexes, many_rows 65)) ((codes "-l", codes "r10=2" ∷ many_asked n) ∷ []) nothing).1) (64 ∷ 65 ∷ []) ≡ None ∷ Some Limit ∷ []
unfolding request_of site with_body many_rows many_asked
as_many_as_may_be = refl

-- the answers to a new request and to a changed one
new_request : request_read site ((codes "-l", codes "mem=1" ∷ []) ∷ []) ≡ Ok (record nothing { asked = (codes "mem", Amount 1) ∷ [] })
unfolding request_read request_of site
new_request = refl

refused_request : request_read site ((codes "-pe", codes "mpi" ∷ codes "0" ∷ []) ∷ []) ≡ Err NoSuchObject
unfolding request_read request_of site
refused_request = refl

changed_request : request_changed site ((codes "-q", codes "a.q" ∷ []) ∷ []) some ≡ Ok (record some { queues = codes "a.q" ∷ [] })
unfolding request_changed request_of site
changed_request = refl
