-- What a forest in memory promises of its own is what a forest promises.
use Rattle.gt_forest.proofs.ImplLemmas.{counts, leaves, leaves_same, same}
use Rattle.gt_forest.proofs.mem.MemForestForest.TheImpl.Goals as goal
use Rattle.std.proofs.Common.{None, Some}

pub stat-tells : goal.stat-tells
stat-tells c = record {
  same = same c.args.self.now c.new.self.now _ c.result c.ensures.whole;
  cause = counts c.args.self.now c.new.self.now _ c.result c.ensures.whole;
  fault = c.ensures.fault;
  room = c.ensures.room;
  told = λ _. c.ensures.told;
  images = λ _. leaves_same c.args.self.now c.new.self.now c.ensures.told.same;
}

pub list-tells : goal.list-tells
list-tells c = record {
  same = same c.args.self.now c.new.self.now _ c.result c.ensures.whole;
  cause = counts c.args.self.now c.new.self.now _ c.result c.ensures.whole;
  fault = c.ensures.fault;
  ok = c.ensures.ok;
  told = λ _. c.ensures.told;
  images = λ _. leaves_same c.args.self.now c.new.self.now c.ensures.told.same;
}

pub read-tells : goal.read-tells
read-tells c = record {
  same = same c.args.self.now c.new.self.now _ c.result c.ensures.whole;
  cause = counts c.args.self.now c.new.self.now _ c.result c.ensures.whole;
  fault = c.ensures.fault;
  room = c.ensures.room;
  told = λ _. c.ensures.told;
  images = λ _. leaves_same c.args.self.now c.new.self.now c.ensures.told.same;
}

pub stage_open-tells : goal.stage_open-tells
stage_open-tells c = record {
  same = same c.args.self.now c.new.self.now _ c.result c.ensures.whole;
  cause = counts c.args.self.now c.new.self.now _ c.result c.ensures.whole;
  fault = c.ensures.fault;
  told = λ _. c.ensures.told;
  images = λ _. leaves c.args.self.now c.new.self.now c.args.collection None (Some c.args.key) c.result _ _ _ c.ensures.told.answers c.ensures.told.others;
}

pub stage_append-tells : goal.stage_append-tells
stage_append-tells c = record {
  same = same c.args.self.now c.new.self.now _ c.result c.ensures.whole;
  cause = counts c.args.self.now c.new.self.now _ c.result c.ensures.whole;
  fault = c.ensures.fault;
  told = λ _. c.ensures.told;
  images = λ _. leaves c.args.self.now c.new.self.now c.args.collection None (Some c.args.key) c.result _ _ _ c.ensures.told.answers c.ensures.told.others;
}

pub stage_place-tells : goal.stage_place-tells
stage_place-tells c = record {
  same = same c.args.self.now c.new.self.now _ c.result c.ensures.whole;
  cause = counts c.args.self.now c.new.self.now _ c.result c.ensures.whole;
  fault = c.ensures.fault;
  told = λ _. c.ensures.told;
  images = λ _. leaves c.args.self.now c.new.self.now c.args.collection (Some c.args.path.now) (Some c.args.key) c.result _ _ _ c.ensures.told.answers c.ensures.told.others;
}

pub stage_drop-tells : goal.stage_drop-tells
stage_drop-tells c = record {
  same = same c.args.self.now c.new.self.now _ c.result c.ensures.whole;
  cause = counts c.args.self.now c.new.self.now _ c.result c.ensures.whole;
  fault = c.ensures.fault;
  told = λ _. c.ensures.told;
  images = λ _. leaves c.args.self.now c.new.self.now c.args.collection None (Some c.args.key) c.result _ _ _ c.ensures.told.answers c.ensures.told.others;
}

pub make_dir-tells : goal.make_dir-tells
make_dir-tells c = record {
  same = same c.args.self.now c.new.self.now _ c.result c.ensures.whole;
  cause = counts c.args.self.now c.new.self.now _ c.result c.ensures.whole;
  fault = c.ensures.fault;
  told = λ _. c.ensures.told;
  images = λ _. leaves c.args.self.now c.new.self.now c.args.collection (Some c.args.path.now) None c.result _ _ _ c.ensures.told.answers c.ensures.told.others;
}

pub remove_file-tells : goal.remove_file-tells
remove_file-tells c = record {
  same = same c.args.self.now c.new.self.now _ c.result c.ensures.whole;
  cause = counts c.args.self.now c.new.self.now _ c.result c.ensures.whole;
  fault = c.ensures.fault;
  told = λ _. c.ensures.told;
  images = λ _. leaves c.args.self.now c.new.self.now c.args.collection (Some c.args.path.now) None c.result _ _ _ c.ensures.told.answers c.ensures.told.others;
}

pub remove_dir-tells : goal.remove_dir-tells
remove_dir-tells c = record {
  same = same c.args.self.now c.new.self.now _ c.result c.ensures.whole;
  cause = counts c.args.self.now c.new.self.now _ c.result c.ensures.whole;
  fault = c.ensures.fault;
  told = λ _. c.ensures.told;
  images = λ _. leaves c.args.self.now c.new.self.now c.args.collection (Some c.args.path.now) None c.result _ _ _ c.ensures.told.answers c.ensures.told.others;
}
