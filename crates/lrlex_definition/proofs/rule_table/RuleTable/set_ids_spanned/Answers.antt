use Rattle.lrlex_definition.proofs.rule_table.RuleTable.set_ids_spanned.Goals as goal

pub returns-clause-unused : goal.returns-clause-unused
returns-clause-unused g c = rw c.as_slice-2.ensures.value at c.in_ok-unused.ensures

pub returns-clause-rules : goal.returns-clause-rules
returns-clause-rules g c = c.take_ids.ensures.rules

pub returns-clause-states : goal.returns-clause-states
returns-clause-states g c = c.take_ids.ensures.states

pub returns-clause-flags : goal.returns-clause-flags
returns-clause-flags g c = c.take_ids.ensures.flags

pub returns-clause-lacking : goal.returns-clause-lacking
returns-clause-lacking g c = rw c.as_slice.ensures.value at c.in_ok-lacking.ensures
