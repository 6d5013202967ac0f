-- `balance_division::most` meets its contract: by the limit's cases.
use Rattle.balance_division.proofs.Accepted.{definite_not_nan, most_definite, most_min, most_max}
use Rattle.balance_division.proofs.most.Goals as goal

pub to_units-requires : goal.to_units-requires
to_units-requires c = definite_not_nan _ _ c.in-Definite.is c.requires

pub returns-in-Definite : goal.returns-in-Definite
returns-in-Definite c = most_definite _ _ c.to_units.result c.in-Definite.is c.requires c.to_units.ensures

pub returns-in-MinContent : goal.returns-in-MinContent
returns-in-MinContent c = most_min _ c.in-MinContent.is

pub returns-in-MaxContent : goal.returns-in-MaxContent
returns-in-MaxContent c = most_max _ c.in-MaxContent.is
