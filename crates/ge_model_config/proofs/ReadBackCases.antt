-- Why the law asks that tables have names alone: a user set whose name ends with a backslash joins two printed lines. And what NONE is in lists.
use Rattle.std.specs.Prelude.{◌≡◌, true, [], ◌∷◌, ◌++◌, map, codes, refl}
use Rattle.ge_base.specs.declared.refusal.Refusal.TheVariants.{NoSuchObject, BadValue}
use Rattle.ge_model_rows.specs.ClusterRows.{Cluster}
use Rattle.ge_model_rows.specs.EntryRows.{Item, ObjectKind}
use Rattle.ge_model_rows.specs.Pieces.{list_items, list_text}
use Rattle.ge_model_config.proofs.Site.{first, site, with_item, item_from, reprinted, ReadBack}

-- a cluster that no event leads to: it has a user set a\
strange : Cluster
unfolding first
strange = with_item first (Item.Set (codes "a\\") [])

-- there a project is read, as the last line of a body keeps its backslash, and is printed with it before another line
read_there : item_from strange ObjectKind.Project (codes "name p\nxacl NONE\nacl a\\")
    ≡ (Item.Project (codes "p") (record { fshare = 0; oticket = 0; acl = codes "a\\" ∷ []; xacl = [] }), [])
unfolding strange item_from
read_there = refl

printed_there : reprinted strange ObjectKind.Project true (codes "name p\nxacl NONE\nacl a\\") ≡ codes "name p\noticket 0\nfshare 0\nacl a\\\nxacl NONE"
unfolding strange reprinted
printed_there = refl

-- the two lines are read as one
not_read_back : item_from strange ObjectKind.Project (codes "name p\noticket 0\nfshare 0\nacl a\\\nxacl NONE")
    ≡ (Item.Project (codes "p") (record { fshare = 0; oticket = 0; acl = codes "axacl" ∷ codes "NONE" ∷ []; xacl = [] }), NoSuchObject ∷ [])
unfolding strange item_from
not_read_back = refl

-- ---- words that end with a backslash, where every name is one

-- a word may end with a backslash, and a host's last value with it: its printed lines read back where no line feed ends the last
host_read_back : ReadBack site ObjectKind.Host (codes "hostname h5\ncomplex_values arch=a\\" ∷ [])
unfolding item_from reprinted site
host_read_back = refl

-- with one the backslash is gone
host_with_feed : item_from site ObjectKind.Host (codes "hostname h5\ncomplex_values arch=a\\\n") ≡ item_from site ObjectKind.Host (codes "hostname h5\ncomplex_values arch=a")
unfolding item_from site
host_with_feed = refl

-- a queue's values are printed before other lines, so such a queue doesn't read back at all
queue_printed : reprinted site ObjectKind.Queue true (codes "qname p\ncomplex_values arch=a\\")
    ≡ codes "qname p\nhostlist NONE\nseq_no 0\nload_thresholds np_load_avg=1.750000\npe_list NONE\nuser_lists NONE\nxuser_lists NONE\nprojects NONE\nxprojects NONE\n"
    ++ codes "complex_values arch=a\\\nslots 1\ns_rt INFINITY\nh_rt INFINITY\ns_cpu INFINITY\nh_cpu INFINITY\ns_fsize INFINITY\nh_fsize INFINITY\ns_data INFINITY\n"
    ++ codes "h_data INFINITY\ns_stack INFINITY\nh_stack INFINITY\ns_core INFINITY\nh_core INFINITY\ns_rss INFINITY\nh_rss INFINITY\ns_vmem INFINITY\nh_vmem INFINITY"
unfolding reprinted site
queue_printed = refl

queue_not_read_back : (item_from site ObjectKind.Queue (reprinted site ObjectKind.Queue true (codes "qname p\ncomplex_values arch=a\\"))).1 ≡ BadValue ∷ []
unfolding item_from reprinted site
queue_not_read_back = refl

-- ---- NONE

-- NONE is the empty list where it stands alone, and an item where it doesn't; no list has it as its only item
nones : map list_items (codes "NONE" ∷ codes " NONE\t" ∷ codes "NONE,NONE" ∷ codes "NONE," ∷ codes "none" ∷ [])
    ≡ [] ∷ [] ∷ (codes "NONE" ∷ codes "NONE" ∷ []) ∷ (codes "NONE" ∷ [] ∷ []) ∷ (codes "none" ∷ []) ∷ []
nones = refl

-- the text of such a list would be that of the empty one
only_none : list_items (list_text (codes "NONE" ∷ [])) ≡ []
only_none = refl
