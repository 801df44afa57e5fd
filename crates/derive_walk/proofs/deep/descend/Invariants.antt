use Rattle.std.proofs.Common.{◌≡◌, ◌+◌, ◌≤◌, length}
use Rattle.meaning_texts.specs.Limits.{height_limit}
use Rattle.derive_walk.specs.Settings.{world_in}
use Rattle.derive_walk.specs.Founds.{AllFit}
use Rattle.derive_walk.specs.Looks.{last_beyond, looks_beyond}
use Rattle.derive_walk.specs.Paths.{IsLed, LeadsDown}
use Rattle.derive_walk.proofs.deep.descend.Given as goal

abbrev pub invariant-loop-count : goal.invariant-loop-count
invariant-loop-count g l = record {
  fit : AllFit l.setting.planned.now l.chain;
  down : IsLed (world_in g.K.Known.keeps l.setting) l.walk → LeadsDown (world_in g.K.Known.keeps l.setting) l.walk l.chain l.height;
  long : IsLed (world_in g.K.Known.keeps l.setting) l.walk → length l.chain ≡ l._count;
  falling : l.height + l._count ≡ height_limit + length l.walk.path;
  later : l.fn.steps ≤ l.steps;
  few : l.steps + last_beyond l.walk.looked l.chain ≤ l.fn.steps + looks_beyond l.walk.looked l.chain;
  most : l.steps + length l.walk.path ≤ l.fn.steps + l._count;
}
