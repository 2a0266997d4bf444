-- Bodies as they are printed.
use Rattle.std.specs.Prelude.{◌≡◌, true, false, [], ◌∷◌, ◌++◌, map, Some, None, codes, refl}
use Rattle.ge_base.specs.declared.refusal.Refusal.TheVariants.{Syntax}
use Rattle.ge_model_rows.specs.EntryRows.{ObjectKind}
use Rattle.ge_model_config.proofs.Site.{site, answer, first, with_body, shown, reprinted, item_from, ReadBack}

environment_after_a_day : shown site ObjectKind.Pe (codes "smp") ≡
    codes "pe_name smp\nslots 100\nuser_lists NONE\nxuser_lists NONE\nallocation_rule $pe_slots\nurgency_slots min"
unfolding shown site
environment_after_a_day = refl

host_after_a_day : shown site ObjectKind.Host (codes "n3") ≡
    codes "hostname n3\ncomplex_values mem=4294967296"
unfolding shown site
host_after_a_day = refl

group_shown : shown site ObjectKind.Group (codes "@all") ≡
    codes "group_name @all\nhostlist @big,n3"
unfolding shown site
group_shown = refl

set_shown : shown site ObjectKind.Set (codes "dev") ≡
    codes "name dev\nentries ann,@staff"
unfolding shown site
set_shown = refl

project_shown : shown site ObjectKind.Project (codes "web") ≡
    codes "name web\noticket 0\nfshare 0\nacl dev\nxacl NONE"
unfolding shown site
project_shown = refl

rule_set_shown : shown site ObjectKind.Quota (codes "per_user") ≡
    codes "{\nname per_user\ndescription NONE\nenabled TRUE\nlimit users {*} to mem=2147483648,slots=6\n"
    ++ codes "limit users @dev hosts @all to slots=4\n}"
unfolding shown site
rule_set_shown = refl

queue_printed : reprinted site ObjectKind.Queue true (codes "qname p\nhostlist n1, n2 @all\nseq_no 3\nload_thresholds mem=1G np_load_avg=2,[@big=mem=2G]\n"
    ++ codes "pe_list smp,[n1=NONE]\nuser_lists dev\nxprojects NONE , [n1=web] ,[n2= NONE]\n"
    ++ codes "complex_values mem=1G,gpu=1,mem=2G,[n1=gpu=FALSE]\nslots 1,[@big=2],[@all=3],[n1=4]\nh_rt 1:0:0,[n2=90]\n"
    ++ codes "s_vmem 1.5G\nh_core INFINITY") ≡
    codes "qname p\nhostlist n1,n2,@all\nseq_no 3\n"
    ++ codes "load_thresholds mem=1073741824,np_load_avg=2.000000,[@big=mem=2147483648]\npe_list smp,[n1=NONE]\n"
    ++ codes "user_lists dev\nxuser_lists NONE\nprojects NONE\nxprojects NONE,[n1=web],[n2=NONE]\n"
    ++ codes "complex_values gpu=TRUE,mem=2147483648,[n1=gpu=FALSE]\nslots 1,[@big=2],[@all=3],[n1=4]\ns_rt INFINITY\n"
    ++ codes "h_rt 1:0:0,[n2=0:1:30]\ns_cpu INFINITY\nh_cpu INFINITY\ns_fsize INFINITY\nh_fsize INFINITY\ns_data INFINITY\n"
    ++ codes "h_data INFINITY\ns_stack INFINITY\nh_stack INFINITY\ns_core INFINITY\nh_core INFINITY\ns_rss INFINITY\n"
    ++ codes "h_rss INFINITY\ns_vmem 1610612736\nh_vmem INFINITY"
unfolding reprinted site
queue_printed = refl

environment_printed : reprinted site ObjectKind.Pe true (codes "pe_name a\nslots 007\nallocation_rule 3\nurgency_slots avg") ≡
    codes "pe_name a\nslots 7\nuser_lists NONE\nxuser_lists NONE\nallocation_rule 3\nurgency_slots avg"
unfolding reprinted site
environment_printed = refl

rule_set_printed : reprinted site ObjectKind.Quota true (codes "{\n  name x\n  description NONE\n  enabled 1\n"
    ++ codes "  limit name one pes !* hosts {@all,n9} users !ann,*,!bob to slots=1, mem=2G\n"
    ++ codes "  limit queues {*} projects web to mem=1.5K,slots=1,slots=2\n}") ≡
    codes "{\nname x\ndescription NONE\nenabled TRUE\n"
    ++ codes "limit name one users *,!ann,!bob pes !* hosts {@all,n9} to mem=2147483648,slots=1\n"
    ++ codes "limit projects web queues {*} to mem=1536,slots=2\n}"
unfolding reprinted site
rule_set_printed = refl

user_printed : reprinted site ObjectKind.User true (codes "name ann\nfshare 7") ≡
    codes "name ann\noticket 0\nfshare 7"
unfolding reprinted site
user_printed = refl

tree_printed : reprinted site ObjectKind.Shares true (codes "id=2\nname=default\ntype=0\nshares=5\nchildnodes=NONE\nid=0\nname=Root\ntype=0\nshares=1\nchildnodes=1 2\nid=1\nname=web\n"
    ++ codes "type=1\nshares=010\nchildnodes=NONE") ≡
    codes "id=0\nname=Root\ntype=0\nshares=1\nchildnodes=1,2\nid=1\nname=web\ntype=1\nshares=10\nchildnodes=NONE\nid=2\n"
    ++ codes "name=default\ntype=0\nshares=5\nchildnodes=NONE"
unfolding reprinted site
tree_printed = refl

settings_printed : reprinted site ObjectKind.Sched false (codes "schedule_interval 90\nqueue_sort_method seqno\nload_formula mem\nweight_user 0.5\n"
    ++ codes "usage_weight_list mem=0.25,cpu=1.5,cpu=2\nalgorithm default\ndefault_duration 1:1:1") ≡
    codes "schedule_interval 0:1:30\nmaxujobs 0\nqueue_sort_method seqno\nload_formula mem\nweight_priority 1.000000\n"
    ++ codes "weight_urgency 0.100000\nweight_ticket 0.010000\nweight_waiting_time 0.000000\nweight_deadline 3600000.000000\n"
    ++ codes "weight_tickets_functional 0\nweight_tickets_share 0\nweight_user 0.500000\nweight_project 0.250000\n"
    ++ codes "weight_job 0.250000\nhalftime 168\nmax_reservation 0\ndefault_duration 1:1:1\n"
    ++ codes "usage_weight_list cpu=2.000000,mem=0.250000,io=0.000000\nmax_pending_tasks_per_job 50"
unfolding reprinted site
settings_printed = refl

complexes_shown : shown (with_body first (ObjectKind.Complexes, codes "ver v INT >= F n 007 0.5\nos o RESTRING != y NO lx* 0")) ObjectKind.Complexes [] ≡
    codes "arch a RESTRING == YES NO NONE 0.000000\nh_core h_core MEMORY <= YES NO 0 0.000000\n"
    ++ codes "h_cpu h_cpu TIME <= YES NO 0:0:0 0.000000\nh_data h_data MEMORY <= YES NO 0 0.000000\n"
    ++ codes "h_fsize h_fsize MEMORY <= YES NO 0 0.000000\nh_rss h_rss MEMORY <= YES NO 0 0.000000\n"
    ++ codes "h_rt h_rt TIME <= YES NO 0:0:0 0.000000\nh_stack h_stack MEMORY <= YES NO 0 0.000000\n"
    ++ codes "h_vmem h_vmem MEMORY <= YES NO 0 0.000000\nhostname h HOST == YES NO NONE 0.000000\n"
    ++ codes "load_avg la DOUBLE >= NO NO 0.000000 0.000000\nmem_free mf MEMORY <= YES NO 0 0.000000\n"
    ++ codes "mem_total mt MEMORY <= YES NO 0 0.000000\nnp_load_avg nla DOUBLE >= NO NO 0.000000 0.000000\n"
    ++ codes "num_proc p INT == YES NO 0 0.000000\nos o RESTRING != YES NO lx* 0.000000\n"
    ++ codes "qname q RESTRING == YES NO NONE 0.000000\ns_core s_core MEMORY <= YES NO 0 0.000000\n"
    ++ codes "s_cpu s_cpu TIME <= YES NO 0:0:0 0.000000\ns_data s_data MEMORY <= YES NO 0 0.000000\n"
    ++ codes "s_fsize s_fsize MEMORY <= YES NO 0 0.000000\ns_rss s_rss MEMORY <= YES NO 0 0.000000\n"
    ++ codes "s_rt s_rt TIME <= YES NO 0:0:0 0.000000\ns_stack s_stack MEMORY <= YES NO 0 0.000000\n"
    ++ codes "s_vmem s_vmem MEMORY <= YES NO 0 0.000000\nslots s INT <= YES YES 1 1000.000000\n"
    ++ codes "ver v INT >= FORCED NO 7 0.500000\nvirtual_free vf MEMORY <= YES NO 0 0.000000"
unfolding shown first with_body
complexes_shown = refl

opening_settings_shown : shown first ObjectKind.Sched [] ≡
    codes "schedule_interval 0:0:15\nmaxujobs 0\nqueue_sort_method load\nload_formula np_load_avg\nweight_priority 1.000000\n"
    ++ codes "weight_urgency 0.100000\nweight_ticket 0.010000\nweight_waiting_time 0.000000\nweight_deadline 3600000.000000\n"
    ++ codes "weight_tickets_functional 0\nweight_tickets_share 0\nweight_user 0.250000\nweight_project 0.250000\n"
    ++ codes "weight_job 0.250000\nhalftime 168\nmax_reservation 0\ndefault_duration INFINITY\n"
    ++ codes "usage_weight_list cpu=1.000000,mem=0.000000,io=0.000000\nmax_pending_tasks_per_job 50"
unfolding shown first
opening_settings_shown = refl

managers_shown : map (shown first ObjectKind.Managers) ([] ∷ codes "x" ∷ []) ≡ codes "root" ∷ codes "root" ∷ []
unfolding shown first
managers_shown = refl

nothing_there : map (shown site ObjectKind.Host) (codes "n9" ∷ []) ≡ [] ∷ []
unfolding shown site
nothing_there = refl

-- what is printed reads back

queues_read_back : ReadBack site ObjectKind.Queue (
    codes "qname p\nhostlist n1, n2 @all\nload_thresholds mem=1G np_load_avg=2,[@big=mem=2G]\npe_list smp,[n1=NONE]\nslots 1,[@big=2],[n1=4]\nh_rt 1:0:0,[n2=90]\ns_vmem 1.5G"
    ∷ codes "qname p\ncomplex_values arch=lx*,gpu=1,mem=3k,np_load_avg=0.000001\nseq_no 281474976710655" ∷ [])
unfolding item_from reprinted site
queues_read_back = refl

environments_read_back : ReadBack site ObjectKind.Pe (codes "pe_name a\nslots 7\nallocation_rule 3\nurgency_slots avg\nxuser_lists dev" ∷ codes "pe_name a\nallocation_rule $round_robin\nurgency_slots 9" ∷ [])
unfolding item_from reprinted site
environments_read_back = refl

rule_sets_read_back : ReadBack site ObjectKind.Quota (codes "{\nname x\nenabled 1\nlimit name one pes !* hosts {@all,n9} users !ann,*,!bob to slots=1, mem=2G\nlimit queues {*} to mem=1.5K\n}" ∷ [])
unfolding item_from reprinted site
rule_sets_read_back = refl

people_read_back : ReadBack site ObjectKind.Set (codes "name x\nentries ann, @staff" ∷ codes "name x" ∷ [])
unfolding item_from reprinted site
people_read_back = refl

projects_read_back : ReadBack site ObjectKind.Project (codes "name x\noticket 3\nxacl dev" ∷ [])
unfolding item_from reprinted site
projects_read_back = refl

trees_read_back : ReadBack site ObjectKind.Shares (codes "id=0\nname=Root\ntype=0\nshares=1\nchildnodes=1 2\nid=1\nname=web\ntype=1\nshares=010\nchildnodes=NONE\nid=2\nname=default\ntype=0\nshares=5\nchildnodes=NONE" ∷ [])
unfolding item_from reprinted site
trees_read_back = refl

settings_read_back : ReadBack site ObjectKind.Sched (codes "schedule_interval 90\nqueue_sort_method seqno\nload_formula mem\nusage_weight_list mem=0.25,cpu=1.5\nhalftime 0" ∷ codes "" ∷ [])
unfolding item_from reprinted site
settings_read_back = refl

complexes_read_back : ReadBack site ObjectKind.Complexes (codes "ver v INT >= F n 007 0.5\nos o RESTRING != y NO lx* 0\nlic l DOUBLE <= YES YES 1.5 10" ∷ [])
unfolding item_from reprinted site
complexes_read_back = refl

-- a filter is printed with its plain elements first: where a brace then stands at one end of it alone, the rule set isn't read again
braces_in_elements : answer site ObjectKind.Quota true (codes "{\nname x\nlimit users !b},a to slots=1\n}") ≡ None
unfolding answer site
braces_in_elements = refl

braces_at_one_end : reprinted site ObjectKind.Quota true (codes "{\nname x\nlimit users !b},a to slots=1\n}")
    ≡ codes "{\nname x\ndescription NONE\nenabled FALSE\nlimit users a,!b} to slots=1\n}"
unfolding reprinted site
braces_at_one_end = refl

not_read_again : answer site ObjectKind.Quota true (codes "{\nname x\ndescription NONE\nenabled FALSE\nlimit users a,!b} to slots=1\n}") ≡ Some Syntax
unfolding answer site
not_read_again = refl
