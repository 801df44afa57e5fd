use Rattle.std.proofs.Common.{◌<◌, ◌≤◌, ◌*◌, subst, rules}
use Rattle.meaning_records.specs.Live.{IsLiveText}
use Rattle.kept_tables.specs.Live.{live_in}
use Rattle.odin_store.proofs.CompactLemmas.{not_wasteful, little_text, much_text}
use Rattle.odin_store.proofs.store.Store.wasteful.Goals as goal

pub returns-clause-yes : goal.returns-clause-yes
returns-clause-yes c less =
    let store = c.args.self.now in
    let text = c.in_ok-text.text in
    let long : 1048576 ≤ store.journal.end = search rules in
    let little : 2 * text < store.journal.end = little_text text store.journal.end c.saturating_sub.result (search rules) less in
    record {
      long = long;
      text = text;
      live = subst (λ g. IsLiveText (live_in g store.sources.texts store.kept) text) c.as_slice.ensures c.in_ok-text.ensures;
      little = little;
    }

pub returns-clause-no : goal.returns-clause-no
returns-clause-no c not_less =
    let store = c.args.self.now in
    let text = c.in_ok-text.text in
    not_wasteful store text c.live_text_is_one.ensures
    (subst (λ g. IsLiveText (live_in g store.sources.texts store.kept) text) c.as_slice.ensures c.in_ok-text.ensures)
    (much_text text store.journal.end c.saturating_sub.result (search rules) not_less)
