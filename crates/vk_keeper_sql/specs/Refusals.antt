-- What a refusal is as a store is opened.
use Rattle.vk_io.specs.declared.errors.OutsideErr.{OutsideErr}
use Rattle.vk_io.specs.declared.errors.OutsideErr.TheVariants.{Failed, NoMemory}
use Rattle.vk_keeper_sql.specs.declared.errors.OpenErr.{OpenErr}
use Rattle.vk_keeper_sql.specs.declared.errors.OpenErr.TheVariants as opening

abbrev pub open_refusal : OutsideErr → OpenErr
open_refusal Failed = opening.Refused
open_refusal NoMemory = opening.NoMemory
