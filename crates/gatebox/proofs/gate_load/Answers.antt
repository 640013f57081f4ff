-- `gate_load` meets its contract: the number is that of the answer. Assumes nothing.
use Rattle.gatebox.proofs.gate_load.Goals as goal

pub returns : goal.returns
returns c = record { answer = c.load_box.result; steps = c.load_box.ensures.loads; packs = cc }
