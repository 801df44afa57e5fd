use Rattle.std.proofs.Common.{refl, codes, Some, None, [], ◌∷◌}
use Rattle.meaning_calls.specs.Tests.{is_well_formed, outcome_fits}
use Rattle.meaning_calls.proofs.Lemmas.{well_formed_decides, fits_decides}
use Rattle.object_values.specs.declared.items.Item.TheVariants.{Kept}
use Rattle.meaning_records.specs.ItemExamples.{old, ex_with_calls, with_kept, stored_call, call, ex_made_outcome, made_outcome, ex_aborted_outcome, aborted_outcome}
use Rattle.meaning_records.proofs.Alone.{alone}
use Rattle.meaning_records.proofs.examples.calls_that_read.Goals as goal

pub returns : goal.returns
unfolding is_well_formed outcome_fits
returns c = record {
  with_outputs = alone old (Kept (stored_call (codes "cc") (Some 0)) ex_made_outcome) with_kept (record {
    loads = (
      call (Some (codes "x=1")),
      made_outcome,
      record {
        called = record { tool = refl; version = refl; words = refl; params = refl; parts = (record { slot = refl; label = refl; body = refl }, tt); outs = refl };
        came = record { status = refl; lines = refl; outputs = (record { name = refl; body = refl }, (record { name = refl; body = refl }, tt)) };
        formed = (well_formed_decides (call (Some (codes "x=1")))).0 refl;
        fits = (fits_decides (call (Some (codes "x=1"))) made_outcome).0 refl;
        new = refl;
      },
      refl,
    );
    edits = refl;
    graph = refl;
    ground = tt;
    noted = refl;
  });
  without = alone old (Kept (stored_call (codes "cc") (Some 0)) ex_aborted_outcome) (ex_with_calls ((call (Some (codes "x=1")), aborted_outcome) ∷ [])) (record {
    loads = (
      call (Some (codes "x=1")),
      aborted_outcome,
      record {
        called = record { tool = refl; version = refl; words = refl; params = refl; parts = (record { slot = refl; label = refl; body = refl }, tt); outs = refl };
        came = record { status = refl; lines = refl; outputs = tt };
        formed = (well_formed_decides (call (Some (codes "x=1")))).0 refl;
        fits = (fits_decides (call (Some (codes "x=1"))) aborted_outcome).0 refl;
        new = refl;
      },
      refl,
    );
    edits = refl;
    graph = refl;
    ground = tt;
    noted = refl;
  });
  absent = alone with_kept (Kept (stored_call (codes "cc") None) ex_aborted_outcome) (ex_with_calls ((call (Some (codes "x=1")), made_outcome) ∷ (call None, aborted_outcome) ∷ [])) (record {
    loads = (
      call None,
      aborted_outcome,
      record {
        called = record { tool = refl; version = refl; words = refl; params = refl; parts = (record { slot = refl; label = refl; body = refl }, tt); outs = refl };
        came = record { status = refl; lines = refl; outputs = tt };
        formed = (well_formed_decides (call None)).0 refl;
        fits = (fits_decides (call None) aborted_outcome).0 refl;
        new = refl;
      },
      refl,
    );
    edits = refl;
    graph = refl;
    ground = tt;
    noted = refl;
  });
}
