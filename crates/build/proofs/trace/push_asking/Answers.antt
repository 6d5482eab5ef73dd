use Rattle.build.proofs.Pushes.{pushed}
use Rattle.build.proofs.trace.push_asking.Goals as goal

pub returns-then-count-lt-MAX_ASKINGS : goal.returns-then-count-lt-MAX_ASKINGS
returns-then-count-lt-MAX_ASKINGS c long few =
    pushed c.args.row.now c.asking_count-count.result c.args.asking long c.asking_count-count.ensures.value c.if-count-lt-MAX_ASKINGS.true
    c.write.new.row c.put_all.new.row c.write.ensures c.put_all.ensures
