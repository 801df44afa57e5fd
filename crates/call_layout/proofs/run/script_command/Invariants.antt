use Rattle.std.proofs.Common.{◌≡◌, ◌∷◌, ◌++◌, codes, map, take, Bor, List, ℕ}
use Rattle.std.specs.Process.{command_program, command_args}
use Rattle.call_layout.proofs.run.script_command.Given as goal

abbrev pub invariant-loop-word : goal.invariant-loop-word
invariant-loop-word l = record {
  program : command_program l.command ≡ codes "sh";
  args : command_args l.command ≡ (codes "./" ++ l.script) ∷ map (λ (word : Bor (List ℕ)). word.now) (take l.word-index l.words);
}
