use Rattle.std.proofs.Common.{◌≡◌, ◌+◌, ◌<◌, ◌≤◌, true, length, sym, ap, ◌∙◌, subst, arith}
use Rattle.meaning_texts.specs.Limits.{height_limit}
use Rattle.derive_walk.specs.Settings.{world_in}
use Rattle.meaning_derive.specs.Chains.{IsDeep}
use Rattle.derive_walk.specs.Founds.{AllFit}
use Rattle.derive_walk.specs.Looks.{IsLonger, looks_beyond}
use Rattle.derive_walk.specs.Paths.{LeadsDown}
use Rattle.derive_walk.specs.Worlds.{seen_in}
use Rattle.derive_walk.proofs.DownLemmas.{path_fits, start_down, some_path, few_on_path, deep_chain}
use Rattle.derive_walk.proofs.DownLooks.{last_among, last_few, longer_looks, never_ok}
use Rattle.derive_walk.proofs.deep.descend.Goals as goal
use Rattle.derive_walk.proofs.deep.descend.Goals.{else-loop-count-test, then-loop-count-test+in_ok-step_down+then-not-branch}

pub loop-count-init : goal.loop-count-init
loop-count-init g c =
    let w = world_in g.K.Known.keeps c.args.setting.now in
    record {
      fit = path_fits w c.args.walk.now c.requires.tall c.in_ok-chain.chain c.in_ok-chain.ensures;
      down = λ led. start_down w c.args.walk.now c.requires.tall led c.in_ok-chain.chain c.in_ok-chain.ensures;
      long = λ led. ap length c.in_ok-chain.ensures ∙ sym c.len-count.ensures;
      falling = ap (λ k. height_limit + k) c.len-count.ensures;
      later = omega arith;
      few = omega (arith, last_among c.args.walk.now.looked c.in_ok-chain.chain);
      most = omega (arith, c.len-count.ensures);
    }

pub step_down-requires-clause-high : goal.step_down-requires-clause-high
step_down-requires-clause-high g c =
    let w = world_in g.K.Known.keeps c.args.setting.now in
    let some_node : 0 < length c.args.walk.now.path = some_path w c.args.walk.now c.requires.tall in
    omega (arith, c.loop-count.invariant.falling, some_node)

pub step_down-requires-clause-formed : goal.step_down-requires-clause-formed
step_down-requires-clause-formed g c = c.requires.tall.is.formed

pub loop-count-preserved : goal.loop-count-preserved
loop-count-preserved g c =
    let w = world_in g.K.Known.keeps c.args.setting.now in
    let some_node : 0 < length c.args.walk.now.path = some_path w c.args.walk.now c.requires.tall in
    record {
      fit = c.in_ok-step_down.ensures.fit;
      down = λ led. subst (λ h. LeadsDown w c.args.walk.now c.step_down.new.chain h) (sym c.saturating_sub-height.ensures)
          (c.in_ok-step_down.ensures.down (c.loop-count.invariant.down led));
      long = λ led. omega (arith, c.in_ok-step_down.ensures.longer (c.loop-count.invariant.down led), c.loop-count.invariant.long led);
      falling = omega (arith, c.saturating_sub-height.ensures, c.loop-count.invariant.falling, some_node);
      later = omega (arith, c.in_ok-step_down.ensures.counted.later, c.loop-count.invariant.later);
      few =
          let longer : IsLonger true c.loop-count.chain c.step_down.new.chain =
          subst (λ b. IsLonger b c.loop-count.chain c.step_down.new.chain) c.if-not-branch.false c.in_ok-step_down.ensures.counted.one in
          let looks = longer_looks c.args.walk.now.looked c.loop-count.chain c.step_down.new.chain longer.0 longer.1 in
          omega (arith, c.in_ok-step_down.ensures.counted.most, c.loop-count.invariant.few, looks);
      most = omega (arith, c.in_ok-step_down.ensures.counted.most, last_few c.args.walk.now.looked c.loop-count.chain, c.loop-count.invariant.most);
    }

pub returns-clause-fit : goal.returns-clause-fit
returns-clause-fit g c = elim c.loop-count-test.branch [
  | else-loop-count-test b ↦
      let same : c.loop-count.chain ≡ c.loop-count-test.chain = cc (b.chain-is) in
      subst (λ l. AllFit c.args.setting.now.planned.now l) same c.loop-count.invariant.fit
  | then-loop-count-test+in_ok-step_down+then-not-branch b ↦
      let same : b.step_down.new.chain ≡ c.loop-count-test.chain = cc (b.chain-is) in
      subst (λ l. AllFit c.args.setting.now.planned.now l) same b.in_ok-step_down.ensures.fit
]

pub returns-clause-deep : goal.returns-clause-deep
returns-clause-deep g c = λ led.
    let w = world_in g.K.Known.keeps c.args.setting.now in
    let few : length c.args.walk.now.path ≤ height_limit = few_on_path w c.args.walk.now c.requires.tall in
    let down = c.loop-count.invariant.down led in
    elim c.loop-count-test.branch [
      | else-loop-count-test b ↦
          let same : c.loop-count.chain ≡ c.loop-count-test.chain = cc (b.chain-is) in
          let long : length c.loop-count.chain ≡ height_limit + 1 =
          omega (arith, c.loop-count.invariant.long led, few, b.loop-count-test.false, c.loop-count.auto._count-end, c.len-count.ensures) in
          subst (λ l. IsDeep w.graph (seen_in w) c.args.walk.now.root l) same (deep_chain w c.args.walk.now c.loop-count.chain c.loop-count.height down long)
      | then-loop-count-test+in_ok-step_down+then-not-branch b ↦
          let same : b.step_down.new.chain ≡ c.loop-count.chain =
          subst (λ z. IsLonger z c.loop-count.chain b.step_down.new.chain) b.if-not-branch.true b.in_ok-step_down.ensures.counted.one in
          absurd (omega (arith, ap length same, b.in_ok-step_down.ensures.longer down))
    ]

pub returns-in_err-step_down-clause-counted : goal.returns-in_err-step_down-clause-counted
returns-in_err-step_down-clause-counted g c =
    let w = world_in g.K.Known.keeps c.args.setting.now in
    let some_node : 0 < length c.args.walk.now.path = some_path w c.args.walk.now c.requires.tall in
    record {
      later = omega (arith, c.step_down.ensures.counted.later, c.loop-count.invariant.later);
      most = omega (arith, c.step_down.ensures.counted.most, last_few c.args.walk.now.looked c.loop-count.chain, c.loop-count.invariant.most, some_node);
      ok = never_ok c.from_residual-in_err-step_down.result _ _ c.from_residual-in_err-step_down.ensures.1;
    }

pub returns-clause-counted : goal.returns-clause-counted
returns-clause-counted g c =
    let w = world_in g.K.Known.keeps c.args.setting.now in
    let looked = c.args.walk.now.looked in
    let some_node : 0 < length c.args.walk.now.path = some_path w c.args.walk.now c.requires.tall in
    let few : length c.args.walk.now.path ≤ height_limit = few_on_path w c.args.walk.now c.requires.tall in
    elim c.loop-count-test.branch [
      | else-loop-count-test b ↦
          let same : c.loop-count.chain ≡ c.loop-count-test.chain = cc (b.chain-is) in
          let steps : c.loop-count.steps ≡ c.loop-count-test.steps = cc (b.steps-is) in
          record {
            later = omega (arith, steps, c.loop-count.invariant.later);
            most = omega (arith, steps, c.loop-count.invariant.most, few, c.loop-count.auto._count-end, c.len-count.ensures);
            ok = omega (arith, steps, c.loop-count.invariant.few, ap (looks_beyond looked) same);
          }
      | then-loop-count-test+in_ok-step_down+then-not-branch b ↦
          let same : b.step_down.new.chain ≡ c.loop-count-test.chain = cc (b.chain-is) in
          let steps : b.step_down.new.steps ≡ c.loop-count-test.steps = cc (b.steps-is) in
          let counted = b.in_ok-step_down.ensures.counted in
          let still : b.step_down.new.chain ≡ c.loop-count.chain =
          subst (λ z. IsLonger z c.loop-count.chain b.step_down.new.chain) b.if-not-branch.true counted.one in
          record {
            later = omega (arith, steps, counted.later, c.loop-count.invariant.later);
            most = omega (arith, steps, counted.most, last_few looked c.loop-count.chain, c.loop-count.invariant.most, some_node, few, c.loop-count.auto._count-end, c.len-count.ensures);
            ok = omega (arith, steps, counted.most, c.loop-count.invariant.few, ap (looks_beyond looked) same, ap (looks_beyond looked) still);
          }
    ]
