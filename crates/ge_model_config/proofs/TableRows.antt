-- Rule sets, complexes and share trees, and what answers them.
use Rattle.std.specs.Prelude.{true, false, [], ◌∷◌, Some, None, codes, refl}
use Rattle.ge_base.specs.declared.refusal.Refusal.TheVariants.{Syntax, NoSuchObject, Exists, InUse, BadValue, Cycle}
use Rattle.ge_model_rows.specs.EntryRows.{ObjectKind}
use Rattle.ge_model_config.proofs.Site.{site, answer, Answers}

rule_sets_added : Answers site ObjectKind.Quota true (
    (codes "{\nname x\nlimit to slots=1\n}", None)
    ∷ (codes "{\nname per_user\nlimit to slots=1\n}", Some Exists)
    ∷ (codes "{\nname x\nlimit users @nosuch to slots=1\n}", Some NoSuchObject)
    ∷ (codes "{\nname x\nlimit users @dev,!@nosuch to slots=1\n}", Some NoSuchObject)
    ∷ (codes "{\nname x\nlimit hosts @nosuch to slots=1\n}", Some NoSuchObject)
    ∷ (codes "{\nname x\nlimit queues @nosuch to slots=1\n}", None)
    ∷ (codes "{\nname x\nlimit to nosuch=1\n}", Some NoSuchObject)
    ∷ (codes "{\nname x\nlimit to arch=lx\n}", Some BadValue)
    ∷ (codes "{\nname x\nlimit to mem=x\n}", Some BadValue)
    ∷ (codes "{\nname x\nenabled maybe\nlimit to slots=1\n}", Some BadValue)
    ∷ (codes "{\nname x\nlimit name a/b to slots=1\n}", Some BadValue)
    ∷ (codes "{\nname x\nlimit name a users ann to slots=1, mem=2G\n}", None)
    ∷ (codes "{\nname x\n}", Some Syntax)
    ∷ [])
unfolding answer site
rule_sets_added = refl

rule_sets_changed : Answers site ObjectKind.Quota false (
    (codes "{\nname x\nlimit to slots=1\n}", Some NoSuchObject)
    ∷ [])
unfolding answer site
rule_sets_changed = refl

complexes_added : Answers site ObjectKind.Complexes true (
    (codes "ver v INT >= YES NO 0 0", None)
    ∷ (codes "ver v FLOAT >= YES NO 0 0", Some BadValue)
    ∷ (codes "ver v INT => YES NO 0 0", Some BadValue)
    ∷ (codes "ver v INT >= maybe NO 0 0", Some BadValue)
    ∷ (codes "ver v INT >= y JOB 0 0", Some BadValue)
    ∷ (codes "ver v INT <= y JOB 0 0", None)
    ∷ (codes "ver v MEMORY <= y Job 0 0", None)
    ∷ (codes "ver v INT <= y j 0 0\nwer w INT <= y J 0 0", None)
    ∷ (codes "ver v INT <= y JO 0 0", Some BadValue)
    ∷ (codes "ver v BOOL == y JOB 0 0", Some BadValue)
    ∷ (codes "ver v STRING == YES JOB NONE 0", Some BadValue)
    ∷ (codes "slots s INT <= YES JOB 1 1000", Some BadValue)
    ∷ (codes "slots s INT <= YES YES 1 1000", None)
    ∷ (codes "slot s2 INT <= YES JOB 1 1000", None)
    ∷ (codes "mem mem MEMORY <= YES JOB 1G 0", None)
    ∷ (codes "ver v INT >= f n 0 0.5", None)
    ∷ (codes "ver v INT >= YES NO x 0", Some BadValue)
    ∷ (codes "ver v INT >= YES NO 0 x", Some BadValue)
    ∷ (codes "ver v STRING >= YES NO NONE 0", Some BadValue)
    ∷ (codes "ver v BOOL != YES NO 0 0", None)
    ∷ (codes "ver v INT >= YES YES 0 0", Some BadValue)
    ∷ (codes "ver v STRING == YES YES NONE 0", Some BadValue)
    ∷ (codes "a/b v INT >= YES NO 0 0", Some BadValue)
    ∷ (codes "ver slots INT >= YES NO 0 0", Some BadValue)
    ∷ (codes "ver ver INT >= YES NO 0 0", None)
    ∷ (codes "ver v INT >= YES NO 0 0\nver w INT >= YES NO 0 0", Some BadValue)
    ∷ (codes "ver v INT >= YES NO 0 0\nwer v INT >= YES NO 0 0", Some BadValue)
    ∷ (codes "ver v INT >= YES NO 0", Some Syntax)
    ∷ (codes "h_rt h_rt INT =< YES NO 0 0", Some InUse)
    ∷ (codes "h_rt h_rt TIME =< YES NO 0 0", Some BadValue)
    ∷ (codes "mem mem MEMORY <= YES NO 1G 0", Some InUse)
    ∷ (codes "mem mem INT <= YES YES 1 0", Some InUse)
    ∷ (codes "gpu gpu BOOL == NO NO 1 0", None)
    ∷ (codes "gpu gpu INT == NO NO 1 0", None)
    ∷ [])
unfolding answer site
complexes_added = refl

complexes_anew : Answers site ObjectKind.Complexes false (
    (codes "x x INT <= YES NO 0 0", Some InUse)
    ∷ (codes "x x FLOAT <= YES NO 0 0", Some InUse)
    ∷ [])
unfolding answer site
complexes_anew = refl

share_trees_added : Answers site ObjectKind.Shares true (
    (codes "", None)
    ∷ (codes "id=0\nname=Root\ntype=0\nshares=1\nchildnodes=NONE", None)
    ∷ (codes "id=0\nname=Root\ntype=0\nshares=1\nchildnodes=1,2\nid=1\nname=web\ntype=1\nshares=10\nchildnodes=3\nid=2\nname=default\ntype=0\nshares=5\nchildnodes=NONE\nid=3\nname=default\ntype=0\nshares=5\nchildnodes=NONE", None)
    ∷ (codes "id=0\nname=Root\ntype=0\nshares=1\nchildnodes=1\nid=1\nname=nosuch\ntype=1\nshares=10\nchildnodes=NONE", Some NoSuchObject)
    ∷ (codes "id=0\nname=Root\ntype=0\nshares=1\nchildnodes=1", Some NoSuchObject)
    ∷ (codes "id=0\nname=Root\ntype=0\nshares=1\nchildnodes=a", Some BadValue)
    ∷ (codes "id=0\nname=Root\ntype=0\nshares=1\nchildnodes=", Some BadValue)
    ∷ (codes "id=0\nname=Root\ntype=2\nshares=1\nchildnodes=NONE", Some BadValue)
    ∷ (codes "id=0\nname=R:oot\ntype=0\nshares=1\nchildnodes=NONE", Some BadValue)
    ∷ (codes "id=4294967296\nname=Root\ntype=0\nshares=1\nchildnodes=NONE", Some BadValue)
    ∷ (codes "id=0\nname=Root\ntype=0\nshares=4294967296\nchildnodes=NONE", Some BadValue)
    ∷ (codes "id=0\nname=Root\ntype=0\nshares=1\nchildnodes=NONE\nid=0\nname=b\ntype=0\nshares=1\nchildnodes=NONE", Some BadValue)
    ∷ (codes "id=0\nname=Root\ntype=0\nshares=1\nchildnodes=NONE\nid=1\nname=b\ntype=0\nshares=1\nchildnodes=NONE", Some BadValue)
    ∷ (codes "id=0\nname=Root\ntype=0\nshares=1\nchildnodes=1,1\nid=1\nname=b\ntype=0\nshares=1\nchildnodes=NONE", Some BadValue)
    ∷ (codes "id=0\nname=Root\ntype=0\nshares=1\nchildnodes=1,2\nid=1\nname=b\ntype=0\nshares=1\nchildnodes=NONE\nid=2\nname=b\ntype=0\nshares=1\nchildnodes=NONE", Some BadValue)
    ∷ (codes "id=0\nname=Root\ntype=0\nshares=1\nchildnodes=1\nid=1\nname=web\ntype=1\nshares=1\nchildnodes=2\nid=2\nname=u\ntype=0\nshares=1\nchildnodes=3\nid=3\nname=web\ntype=1\nshares=1\nchildnodes=NONE", Some BadValue)
    ∷ (codes "id=0\nname=Root\ntype=0\nshares=1\nchildnodes=0", Some Cycle)
    ∷ (codes "id=5\nname=a\ntype=0\nshares=1\nchildnodes=6\nid=6\nname=b\ntype=0\nshares=1\nchildnodes=5", Some Cycle)
    ∷ (codes "id=0\nname=r\ntype=0\nshares=1\nchildnodes=NONE\nid=5\nname=a\ntype=0\nshares=1\nchildnodes=6\nid=6\nname=a\ntype=0\nshares=1\nchildnodes=5", Some BadValue)
    ∷ (codes "id=0\nname=r\ntype=0\nshares=1\nchildnodes=NONE\nid=5\nname=web\ntype=1\nshares=1\nchildnodes=5", Some BadValue)
    ∷ [])
unfolding answer site
share_trees_added = refl
