use Rattle.radio_listing.proofs.LawLemmas.{icecast_urls, shown_rows, status_names}
use Rattle.radio_listing.proofs.laws.hidden_mounts_are_left_out.Goals as goal

pub returns-clause-shown : goal.returns-clause-shown
returns-clause-shown c = shown_rows

pub returns-clause-status : goal.returns-clause-status
returns-clause-status c = status_names

pub returns-clause-icecast : goal.returns-clause-icecast
returns-clause-icecast c = icecast_urls
