use Rattle.meaning_tasks.proofs.Fits.{fits_so, so_fits}
use Rattle.meaning_tasks.proofs.node_laws.fits_is_decided.Goals as goal

pub returns : goal.returns
returns c = λ g n. (fits_so g n, so_fits g n)
