-- The hashes decide, then the balances, then the entries.
use mathlib.Core.Path.{sym, ◌∙◌}
use Rattle.signed.proofs.SignedLaws.{back64}
use Rattle.address_order.specs.Order.{of_held}
use Rattle.address_ranking.specs.Rank.{address_of, balance_of, account_in}
use Rattle.content_order.proofs.PassedLaws.{tokens_ready, passed_sides}
use Rattle.content_order.proofs.ContentLaws.{by_hash, by_balance}
use borrow.Author.Rules.{rules}
use Rattle.content_order.proofs.compare_contents.Goals as goal

pub compare_balances-by_balance-requires : goal.compare_balances-by_balance-requires
compare_balances-by_balance-requires c =
    let a = c.args in
    let x = address_of a.edition a.counts a.hash.now a.ids.now a.amounts.now a.boxes.now a.txs.now a.staged.now a.table.now in
    let y = address_of a.other_edition a.other_counts a.other_hash.now a.other_ids.now a.other_amounts.now a.other_boxes.now a.other_txs.now a.other_staged.now a.other_table.now in
    (tokens_ready x c.requires.0.passed c.compare_balances-arg-1.given c.compare_balances-arg-in-Equal-1.given, tokens_ready y c.requires.1.passed c.compare_balances-arg-in-Equal-2-1.given c.compare_balances-arg-in-Equal-3-1.given)

pub compare_entries-requires : goal.compare_entries-requires
compare_entries-requires c =
    let a = c.args in
    let x = address_of a.edition a.counts a.hash.now a.ids.now a.amounts.now a.boxes.now a.txs.now a.staged.now a.table.now in
    let y = address_of a.other_edition a.other_counts a.other_hash.now a.other_ids.now a.other_amounts.now a.other_boxes.now a.other_txs.now a.other_staged.now a.other_table.now in
    (passed_sides x c.requires.0, passed_sides y c.requires.1)

pub returns-in-Less : goal.returns-in-Less
returns-in-Less c =
    let a = c.args in
    let x = address_of a.edition a.counts a.hash.now a.ids.now a.amounts.now a.boxes.now a.txs.now a.staged.now a.table.now in
    let y = address_of a.other_edition a.other_counts a.other_hash.now a.other_ids.now a.other_amounts.now a.other_boxes.now a.other_txs.now a.other_staged.now a.other_table.now in
    sym (by_hash (account_in x) (account_in y) c.compare_ids-arg-1.given c.compare_ids-arg-2-1.given _ (sym c.in-Less.is ∙ c.compare_ids-by_hash.ensures))

pub returns-in-Greater : goal.returns-in-Greater
returns-in-Greater c =
    let a = c.args in
    let x = address_of a.edition a.counts a.hash.now a.ids.now a.amounts.now a.boxes.now a.txs.now a.staged.now a.table.now in
    let y = address_of a.other_edition a.other_counts a.other_hash.now a.other_ids.now a.other_amounts.now a.other_boxes.now a.other_txs.now a.other_staged.now a.other_table.now in
    sym (by_hash (account_in x) (account_in y) c.compare_ids-arg-1.given c.compare_ids-arg-2-1.given _ (sym c.in-Greater.is ∙ c.compare_ids-by_hash.ensures))

pub returns-in-Less-by_balance : goal.returns-in-Less-by_balance
returns-in-Less-by_balance c =
    let a = c.args in
    let x = address_of a.edition a.counts a.hash.now a.ids.now a.amounts.now a.boxes.now a.txs.now a.staged.now a.table.now in
    let y = address_of a.other_edition a.other_counts a.other_hash.now a.other_ids.now a.other_amounts.now a.other_boxes.now a.other_txs.now a.other_staged.now a.other_table.now in
    let e = back64 a.counts.nanos (search rules) in
    let g = back64 a.other_counts.nanos (search rules) in
    let q = sym c.in-Less-by_balance.is ∙ c.compare_balances-by_balance.ensures ∙ (λ i. of_held (balance_of a.counts.held (e i) a.ids.now a.amounts.now a.counts.tokens) (balance_of a.other_counts.held (g i) a.other_ids.now a.other_amounts.now a.other_counts.tokens)) in
    sym (by_balance (account_in x) (account_in y) c.compare_ids-arg-1.given c.compare_ids-arg-2-1.given (sym c.in-Equal.is ∙ c.compare_ids-by_hash.ensures) _ q)

pub returns-in-Greater-by_balance : goal.returns-in-Greater-by_balance
returns-in-Greater-by_balance c =
    let a = c.args in
    let x = address_of a.edition a.counts a.hash.now a.ids.now a.amounts.now a.boxes.now a.txs.now a.staged.now a.table.now in
    let y = address_of a.other_edition a.other_counts a.other_hash.now a.other_ids.now a.other_amounts.now a.other_boxes.now a.other_txs.now a.other_staged.now a.other_table.now in
    let e = back64 a.counts.nanos (search rules) in
    let g = back64 a.other_counts.nanos (search rules) in
    let q = sym c.in-Greater-by_balance.is ∙ c.compare_balances-by_balance.ensures ∙ (λ i. of_held (balance_of a.counts.held (e i) a.ids.now a.amounts.now a.counts.tokens) (balance_of a.other_counts.held (g i) a.other_ids.now a.other_amounts.now a.other_counts.tokens)) in
    sym (by_balance (account_in x) (account_in y) c.compare_ids-arg-1.given c.compare_ids-arg-2-1.given (sym c.in-Equal.is ∙ c.compare_ids-by_hash.ensures) _ q)

pub returns-in-Equal-by_balance : goal.returns-in-Equal-by_balance
returns-in-Equal-by_balance c =
    let a = c.args in
    let x = address_of a.edition a.counts a.hash.now a.ids.now a.amounts.now a.boxes.now a.txs.now a.staged.now a.table.now in
    let y = address_of a.other_edition a.other_counts a.other_hash.now a.other_ids.now a.other_amounts.now a.other_boxes.now a.other_txs.now a.other_staged.now a.other_table.now in
    let e = back64 a.counts.nanos (search rules) in
    let g = back64 a.other_counts.nanos (search rules) in
    let q = sym c.in-Equal-by_balance.is ∙ c.compare_balances-by_balance.ensures ∙ (λ i. of_held (balance_of a.counts.held (e i) a.ids.now a.amounts.now a.counts.tokens) (balance_of a.other_counts.held (g i) a.other_ids.now a.other_amounts.now a.other_counts.tokens)) in
    c.compare_entries.ensures ∙ sym (by_balance (account_in x) (account_in y) c.compare_ids-arg-1.given c.compare_ids-arg-2-1.given (sym c.in-Equal.is ∙ c.compare_ids-by_hash.ensures) _ q)
