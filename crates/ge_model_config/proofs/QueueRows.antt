-- Bodies of queues, and what answers them.
use Rattle.std.specs.Prelude.{true, false, [], ◌∷◌, Some, None, codes, refl}
use Rattle.ge_base.specs.declared.refusal.Refusal.TheVariants.{Syntax, NoSuchObject, Exists, BadValue}
use Rattle.ge_model_rows.specs.EntryRows.{ObjectKind}
use Rattle.ge_model_config.proofs.Site.{site, answer, Answers}

queues_added : Answers site ObjectKind.Queue true (
    (codes "qname a", None)
    ∷ (codes "qname all.q", Some Exists)
    ∷ (codes "qname a/b", Some BadValue)
    ∷ (codes "qname a\nhostlist n1, n2 @big", None)
    ∷ (codes "qname a\nhostlist n9", Some NoSuchObject)
    ∷ (codes "qname a\nhostlist n1,[n2=n3]", Some NoSuchObject)
    ∷ (codes "qname a\nslots x", Some BadValue)
    ∷ (codes "qname a\nseq_no 281474976710656", Some BadValue)
    ∷ (codes "qname a\npe_list mpi", Some NoSuchObject)
    ∷ (codes "qname a\nuser_lists dev nosuch", Some NoSuchObject)
    ∷ (codes "qname a\nprojects nosuch", Some NoSuchObject)
    ∷ (codes "qname a\nload_thresholds arch=lx", Some BadValue)
    ∷ (codes "qname a\nload_thresholds mem=1G,nosuch=1", Some NoSuchObject)
    ∷ (codes "qname a\ncomplex_values gpu=yes", Some BadValue)
    ∷ (codes "qname a\nh_rt 1:1", Some BadValue)
    ∷ (codes "qname a\nh_vmem 4G,[n1=8G]", None)
    ∷ (codes "qname a\ncalendar NONE", None)
    ∷ (codes "qname a\ncalendar NONE,[n1=day]", Some BadValue)
    ∷ (codes "qname a\npriority 0\nslots 2\npriority 1", Some Syntax)
    ∷ (codes "slots 2", Some Syntax)
    ∷ (codes "qname a\nslots", Some Syntax)
    ∷ [])
unfolding answer site
queues_added = refl

queues_changed : Answers site ObjectKind.Queue false (
    (codes "qname a", Some NoSuchObject)
    ∷ [])
unfolding answer site
queues_changed = refl

overrides : Answers site ObjectKind.Queue true (
    (codes "qname a\nslots 1,[n1=2],[@big=3]", None)
    ∷ (codes "qname a\nslots 1 , [n1=2]\t,[n2=3] ", None)
    ∷ (codes "qname a\nslots 1,[n9=2]", Some NoSuchObject)
    ∷ (codes "qname a\nslots 1,[@c=2]", Some NoSuchObject)
    ∷ (codes "qname a\nslots 1,[n1]", Some BadValue)
    ∷ (codes "qname a\nslots 1,[n1=2", Some BadValue)
    ∷ (codes "qname a\nslots 1,[n1=2]x", Some BadValue)
    ∷ (codes "qname a\nslots 1,[n9=2],[n1", Some BadValue)
    ∷ (codes "qname a\nslots 1,[ n1=2]", Some NoSuchObject)
    ∷ (codes "qname a\nslots 1,[n1= 2]", Some BadValue)
    ∷ (codes "qname a\nslots 1,[=2]", Some NoSuchObject)
    ∷ (codes "qname a\nslots 1,[n1=]", Some BadValue)
    ∷ (codes "qname a\nslots ,[n1=2]", Some BadValue)
    ∷ (codes "qname a\nslots 1,[n1=2],", Some BadValue)
    ∷ (codes "qname a\npe_list [n1=smp]", Some NoSuchObject)
    ∷ (codes "qname a\npe_list smp,[n1=mpi]", Some NoSuchObject)
    ∷ (codes "qname a\nslots 1,[n1=2][n2=3]", Some BadValue)
    ∷ [])
unfolding answer site
overrides = refl
