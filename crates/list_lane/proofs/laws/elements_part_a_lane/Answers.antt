use Rattle.list_lane.proofs.Apart.{all_before_them, all_behind_them, all_among_them, one_of_them}
use Rattle.list_lane.proofs.laws.elements_part_a_lane.Goals as goal

pub returns-clause-before : goal.returns-clause-before
returns-clause-before c = all_before_them

pub returns-clause-behind : goal.returns-clause-behind
returns-clause-behind c = all_behind_them

pub returns-clause-among : goal.returns-clause-among
returns-clause-among c = all_among_them

pub returns-clause-itself : goal.returns-clause-itself
returns-clause-itself c = one_of_them
