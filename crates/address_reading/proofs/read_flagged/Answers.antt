-- `address_reading::read_flagged` meets its contract: the end of the bytes, flag 00, flag 01 and a balance, any other flag.
use Rattle.address_core.proofs.LoadLaws.{flag_cut, flag_0, flag_1, flag_7}
use Rattle.address_reading.proofs.read_flagged.Goals as goal

pub returns-then-row-at : goal.returns-then-row-at
returns-then-row-at c = let a = c.args in flag_cut a.row.now a.at a.ids.now a.amounts.now c.if-row-at.true _ _

pub returns-then-flag-eq0 : goal.returns-then-flag-eq0
returns-then-flag-eq0 c = let a = c.args in flag_0 a.row.now a.at a.ids.now a.amounts.now c.if-row-at.false c.if-flag-eq0.true

pub returns-then-flag-eq1 : goal.returns-then-flag-eq1
returns-then-flag-eq1 c = let a = c.args in flag_1 a.row.now a.at a.ids.now a.amounts.now c.if-row-at.false c.if-flag-eq1.true _ _ _ c.read_balance.ensures

pub returns : goal.returns
returns c = let a = c.args in flag_7 a.row.now a.at a.ids.now a.amounts.now c.if-row-at.false c.if-flag-eq0.false c.if-flag-eq1.false _ _
