-- Which fault stands for which error (this project's own). To be believed.
use Rattle.jt_store.specs.declared.error.StoreError.{StoreError}
use Rattle.jt_store.specs.declared.error.StoreError.TheVariants as store
use Rattle.jt_terminal_steps.specs.declared.error.TerminalError.{TerminalError}
use Rattle.jt_terminal_steps.specs.declared.error.TerminalError.TheVariants as terminal
use Rattle.jt_order_terminal.specs.declared.fault.OrderFault.{OrderFault}
use Rattle.jt_order_terminal.specs.declared.fault.OrderFault.TheVariants.{Vault, Log, Memory}

-- of an event of the wrapped terminal
abbrev pub fault_of : TerminalError → OrderFault
fault_of terminal.Store = Vault
fault_of terminal.Memory = Memory

-- of a call of the log
abbrev pub log_fault : StoreError → OrderFault
log_fault store.Failed = Log
log_fault (store.Full limit) = Memory
log_fault store.Memory = Memory
