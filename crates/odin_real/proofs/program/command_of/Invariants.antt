use Rattle.std.proofs.Common.{◌≡◌, ℕ, List, take, false}
use Rattle.std.specs.Prelude.{None}
use Rattle.std.specs.Process.{command_program, command_args, command_var, clears_env}
use Rattle.odin_real.proofs.program.command_of.Given as goal

abbrev pub invariant-loop-word : goal.invariant-loop-word
invariant-loop-word l = record {
  program : command_program l.command ≡ command_program l.initial.command;
  args : command_args l.command ≡ take l.word-index l.others;
  inherits : clears_env l.command ≡ false;
  variables : (name : List ℕ) → command_var l.command name ≡ None;
}
