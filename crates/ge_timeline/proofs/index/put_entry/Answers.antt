use Rattle.std.proofs.Common.{rules, ◌≡◌, length, refl}
use Rattle.ge_timeline.proofs.Chained.{put_chained}
use Rattle.ge_timeline.proofs.index.put_entry.Goals as goal

pub returns-clause-chained : goal.returns-clause-chained
returns-clause-chained c =
    let many : c.len.result ≡ length c.push.new.self.items = search rules in
    put_chained c.args.entries.now.items c.push.new.self.items _ c.args.heads.now c.bucket_among-bucket.result c.len.result c.in_ok-push.ensures.items c.bucket_among-bucket.ensures.bucket c.bucket_among-bucket.ensures.within many refl c.requires.chained
